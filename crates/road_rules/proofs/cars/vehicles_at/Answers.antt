use Rattle.std.proofs.Common.{◌∙◌, ap, sym}
use Rattle.road_rules.specs.Seen.{with_vehicle}
use Rattle.road_rules.proofs.SeenLaws.{vehicles_more}
use Rattle.road_rules.proofs.cars.vehicles_at.Goals as goal
use Rattle.road_rules.proofs.cars.vehicles_at.Goals.{in-Some+in_ok-add_vehicle, in_default}

pub loop-tuple-preserved : goal.loop-tuple-preserved
loop-tuple-preserved c =
    let e = vehicles_more c.args.in_minute c.args.stretch c.args.tuples.now c.loop-tuple.tuple-index _
    c.loop-tuple-test.true c.vehicle_at.ensures in
    elim c.match-vehicle_at.branch [
      | in-Some+in_ok-add_vehicle w ↦ (
        ap (λ v. v.items) w.vids-is ∙ w.in_ok-add_vehicle.ensures.added
            ∙ ap (λ vs. with_vehicle vs w.in-Some.vid) c.loop-tuple.invariant.0 ∙ sym (rw w.in-Some.is at e),
        rw (w.known-is, w.vids-is) w.in_ok-add_vehicle.ensures.known,
      )
      | in_default w ↦ (
        ap (λ v. v.items) w.vids-is ∙ c.loop-tuple.invariant.0 ∙ sym (rw w.in_default.is at e),
        rw (w.known-is, w.vids-is) c.loop-tuple.invariant.1,
      )
    ]
