use Rattle.std.proofs.Common.{◌≡◌, nat_eq, ◌++◌, ◌∷◌, [], sym, ap, ◌∙◌, rules, Some, reverse, cond}
use Rattle.std.specs.HashMap.{get}
use Rattle.road_rules.specs.Halts.{next_time, halts_after}
use Rattle.road_rules.proofs.MarkLaws.{halts_step}
use Rattle.road_rules.proofs.halts.halts.Goals as goal

pub loop-mark-preserved : goal.loop-mark-preserved
loop-mark-preserved c =
    let m = c.in-Some.mark.now in
    let older = c.in-Some.older.now in
    let inv = c.loop-mark.invariant in
    let parts : c.loop-mark.rest.now ≡ older ++ m ∷ [] = search rules in
    let to : c.copied.result ≡ next_time inv.0 m.report.vid =
    let got : c.copied.result ≡ get nat_eq c.loop-mark.nexts m.report.vid = search rules in
    got ∙ inv.1 m.report.vid in (
      m ∷ inv.0,
      λ v. c.in_ok-insert.ensures.updates.0 v ∙ ap (cond (nat_eq m.report.vid v) (Some m.report.time)) (inv.1 v),
      ap (λ hs. hs ++ halts_after (m ∷ inv.0) (reverse older)) c.in_ok-add_halt.ensures
          ∙ halts_step c.loop-mark.halts.items inv.0 m older c.copied.result to
          ∙ ap (λ xs. c.loop-mark.halts.items ++ halts_after inv.0 (reverse xs)) (sym parts) ∙ inv.2,
    )
