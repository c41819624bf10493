use Rattle.std.proofs.Common.{◌≡◌, ap, ◌∙◌, arith, sym, length}
use Rattle.std.proofs.lemmas.List.Sums.{prefix_len_is}
use Rattle.std.proofs.lemmas.Bool.{not-true}
use Rattle.road_time.specs.declared.road.Report.{Report}
use Rattle.road_time.specs.Tuples.{same_place, place_of}
use Rattle.road_rules.proofs.near.run_at.Goals as goal

abbrev none : Report
none = record { time = 0; vid = 0; spd = 0; xway = 0; lane = 0; dir = 0; seg = 0; pos = 0 }

pub returns-then-ne : goal.returns-then-ne
returns-then-ne c =
    sym (prefix_len_is (λ r. same_place (place_of r) c.args.place) c.args.trail.now c.loop-i.i none (omega arith)
    (λ k h. c.loop-i.invariant k none h) (λ _. ap (λ p. same_place p c.args.place) (sym c.place.ensures)
    ∙ not-true _ (sym c.ne.ensures ∙ c.if-ne.true)))

pub returns : goal.returns
returns c =
    let end : c.loop-i.i ≡ length c.args.trail.now = omega arith in
    sym (prefix_len_is (λ r. same_place (place_of r) c.args.place) c.args.trail.now (length c.args.trail.now) none
    (omega arith) (λ k h. c.loop-i.invariant k none (omega arith)) (λ h. absurd (omega arith)))
