use Rattle.std.proofs.Common.{◌≡◌, nat_eq, ◌++◌, ◌∷◌, [], ◌+◌, sym, ap, ◌∙◌, rules, take, reverse}
use Rattle.std.specs.HashMap.{get}
use Rattle.std.specs.List.{cons_option}
use Rattle.std.proofs.lemmas.List.{append-nil}
use Rattle.road_time.specs.Tuples.{reports, report_of}
use Rattle.road_time.specs.Stops.{last_seen}
use Rattle.road_rules.specs.Halts.{of_vehicle, marks_of}
use Rattle.road_rules.proofs.SeenLaws.{filter_map_more}
use Rattle.road_rules.proofs.MarkLaws.{marks_push, seen_push}
use Rattle.road_rules.proofs.halts.marks.Goals as goal
use Rattle.road_rules.proofs.halts.marks.Goals.{in-Some+in_ok-stands+in_ok-push, in_default}

pub loop-tuple-preserved : goal.loop-tuple-preserved
loop-tuple-preserved c =
    let i = c.loop-tuple.tuple-index in
    let day = c.args.tuples.now in
    let rs = reports (take i day) in
    let more : reports (take (i + 1) day) ≡ rs ++ cons_option c.report_of.result [] =
    filter_map_more report_of day i _ c.loop-tuple-test.true c.report_of.ensures in
    elim c.match-report_of.branch [
      | in-Some+in_ok-stands+in_ok-push w ↦
          let r = w.in-Some.report in
          let grown : reports (take (i + 1) day) ≡ rs ++ r ∷ [] =
          more ∙ ap (λ o. rs ++ cons_option o []) w.in-Some.is in
          let items : w.push.new.self.items ≡ c.loop-tuple.marks.items
          ++ record { report = r; stands = w.in_ok-stands.stands } ∷ [] = search rules in
          record {
            made = ap (λ m. reverse m.items) w.marks-is ∙ ap reverse items
                ∙ marks_push c.loop-tuple.marks.items rs r w.in_ok-stands.stands c.loop-tuple.invariant.made
                (w.in_ok-stands.ensures.stands (of_vehicle r.vid (reverse rs))
                (sym (c.loop-tuple.invariant.seen r.vid)))
                ∙ sym (ap (λ xs. marks_of (reverse xs)) grown);
            seen = λ v. ap (λ s. get nat_eq s v) w.seen-is
                ∙ seen_push (get nat_eq c.loop-tuple.seen) (get nat_eq w.see.new.seen) rs r c.loop-tuple.invariant.seen
                (w.in_ok-stands.ensures.run (of_vehicle r.vid (reverse rs)) (sym (c.loop-tuple.invariant.seen r.vid)))
                w.in_ok-stands.ensures.others v
                ∙ sym (ap (λ xs. last_seen (of_vehicle v (reverse xs))) grown);
          }
      | in_default w ↦
          let same : reports (take (i + 1) day) ≡ rs = more ∙ ap (λ o. rs ++ cons_option o []) w.in_default.is
          ∙ append-nil rs in
          record {
            made = ap (λ m. reverse m.items) w.marks-is ∙ c.loop-tuple.invariant.made
                ∙ sym (ap (λ xs. marks_of (reverse xs)) same);
            seen = λ v. ap (λ s. get nat_eq s v) w.seen-is ∙ c.loop-tuple.invariant.seen v
                ∙ sym (ap (λ xs. last_seen (of_vehicle v (reverse xs))) same);
          }
    ]
