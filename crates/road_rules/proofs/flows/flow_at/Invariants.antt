use Rattle.std.proofs.Common.{◌≡◌, ◌≤◌, ◌*◌, take}
use Rattle.std.specs.List.{sum_by}
use Rattle.road_time.specs.Notes.{speed12, notes_of_vehicle, notes_at}
use Rattle.road_time.specs.Tolls.{notes_of}
use Rattle.road_time.specs.Tuples.{reports}
use Rattle.road_rules.proofs.flows.flow_at.Given as goal

abbrev pub invariant-loop-vid : goal.invariant-loop-vid
invariant-loop-vid l = record {
  sum : l.sum ≡ sum_by
      (λ v. speed12 (notes_of_vehicle (notes_at (notes_of (reports l.tuples)) l.in_minute l.fn.stretch) v))
      (take l.vid-index l.vid-items);
  small : l.sum ≤ 3060 * l.vid-index;
}
