use Rattle.std.proofs.Common.{◌≡◌, ◌≤◌, arith, sym, ◌∙◌, ◌+◌, ◌-◌}
use Rattle.std.proofs.lemmas.Bool.{false≢true}
use Rattle.road_rules.proofs.VerdictLaws.{agree_more, agree_all}
use Rattle.road_rules.proofs.verdict.compare.Goals as goal

pub loop-i-preserved : goal.loop-i-preserved
loop-i-preserved c =
    agree_more c.loop-i.i c.args.wanted.now c.args.found.now c.loop-i.invariant
    (sym c.at-here.ensures ∙ c.are_same.ensures.yes c.if-not-are_same.false ∙ c.at-there.ensures)

pub returns : goal.returns
returns c =
    let lines : c.max-lines.result ≤ c.loop-i.i = omega arith in
    agree_all c.loop-i.i c.args.wanted.now c.args.found.now (omega arith) (omega arith) c.loop-i.invariant

pub returns-then-not-are_same : goal.returns-then-not-are_same
returns-then-not-are_same c =
    let less : c.loop-i.i + 1 - 1 ≡ c.loop-i.i = omega arith in
    rw less (
      omega arith,
      c.loop-i.invariant,
      c.at-here.ensures,
      c.at-there.ensures,
      λ e. absurd
          (false≢true (sym c.if-not-are_same.true ∙ c.are_same.ensures.no e)),
    )
