use Rattle.std.proofs.Common.{◌≡◌, take}
use Rattle.road_time.specs.Notes.{vehicles_of, notes_at}
use Rattle.road_time.specs.Tolls.{notes_of}
use Rattle.road_time.specs.Tuples.{reports}
use Rattle.road_rules.specs.Seen.{AreKnown}
use Rattle.road_rules.proofs.cars.vehicles_at.Given as goal

abbrev pub invariant-loop-tuple : goal.invariant-loop-tuple
invariant-loop-tuple l =
    (l.vids.items ≡ vehicles_of (notes_at (notes_of (reports (take l.tuple-index l.tuples))) l.in_minute l.stretch))
    × AreKnown l.known l.vids.items
