-- What the shards' answers are, position by position, as laws that no code runs.
use Rattle.std.specs.Prelude.{◌≡◌, ℕ, ◌<◌, List, [], ◌++◌, length, slice_get, Some}
use Rattle.road_time.specs.declared.road.Tuple.{Tuple}
use Rattle.ways_audit.specs.Seen.{tracked_at, tracked_after}

-- what a day's tuples tell is, at each position, what the report there tells over the whole day
abbrev pub ShardSeenLaw : Type 0
ShardSeenLaw = (day : List Tuple) (position : ℕ) → position < length day →
    slice_get (tracked_after [] day) position ≡ Some (tracked_at day position)

-- what tuples tell is the same whether they are given at once or in parts
abbrev pub ShardPartsLaw : Type 0
ShardPartsLaw =
    (before day : List Tuple) → tracked_after [] (before ++ day) ≡ tracked_after [] before ++ tracked_after before day
