use Rattle.std.proofs.Common.{◌==◌, ◌++◌, ◌∷◌, [], cond, nat_eq, ap, sym, ◌∙◌}
use Rattle.std.specs.HashMap.{get}
use Rattle.std.proofs.lemmas.List.{append-nil}
use Rattle.road_rules.specs.Seen.{noted_speed}
use Rattle.road_rules.specs.Gathered.{kept_items}
use Rattle.road_rules.proofs.SeenLaws.{filter_map_more, speed_given}
use Rattle.road_rules.proofs.cars.speeds_by_vehicle.Goals as goal
use Rattle.road_rules.proofs.cars.speeds_by_vehicle.Goals.{in-Some+in_ok-add_speed, in_default}

pub loop-tuple-preserved : goal.loop-tuple-preserved
loop-tuple-preserved c = λ v.
    let more = filter_map_more (noted_speed c.args.in_minute c.args.stretch v) c.args.tuples.now c.loop-tuple.tuple-index _
    c.loop-tuple-test.true (c.car_at.ensures v) in
    elim c.match-car_at.branch [
      | in-Some+in_ok-add_speed w ↦ ap (λ m. kept_items (get nat_eq m v)) w.speeds-is ∙ w.in_ok-add_speed.ensures v
          ∙ ap (λ xs. xs ++ cond (w.in-Some.vid == v) (w.in-Some.spd ∷ []) []) (c.loop-tuple.invariant v)
          ∙ sym (rw (w.in-Some.is, speed_given v w.in-Some.vid w.in-Some.spd) at more)
      | in_default w ↦ ap (λ m. kept_items (get nat_eq m v)) w.speeds-is ∙ c.loop-tuple.invariant v
          ∙ sym (rw (w.in_default.is, append-nil _) at more)
    ]
