-- Which tuples the shards have gone over, and what waits at them.
use Rattle.std.specs.Prelude.{◌≡◌, ℕ, ◌<◌, false, List, [], ◌++◌, length, slice_index_or}
use Rattle.road_time.specs.declared.road.Tuple.{Tuple}
use Rattle.road_time.specs.Tuples.{reports}
use Rattle.day_floor.specs.Stands.{StandsFor}
use Rattle.ways_audit.specs.declared.shard.Shard.{Shard}
use Rattle.ways_audit.specs.Own.{own_of, told_after}

-- a shard, of so many, tracks its vehicles by their reports among the tuples given; nothing that it told waits, and it
-- was refused no memory
pub record HasSeen (place count : ℕ) (given : List Tuple) (s : Shard) : Type 0 where
  pub tracks : StandsFor s.tracker (own_of place count (reports given))
  pub nothing : s.told.items ≡ []
  pub serves : s.refused ≡ false

-- each shard has seen the tuples given
abbrev pub HaveSeen : List Shard → List Tuple → Type 0
HaveSeen shards given = (place : ℕ) (d : Shard) → place < length shards →
    HasSeen place (length shards) given (slice_index_or shards place d)

-- a shard went over tuples: it was refused memory, or it has seen them too, and what they tell to it waits in order
pub record WentOver (place count : ℕ) (tuples : List Tuple) (was now : Shard) : Type 0 where
  pub over : now.refused ≡ false → (given : List Tuple) → HasSeen place count given was →
      StandsFor now.tracker (own_of place count (reports (given ++ tuples)))
  pub told : now.refused ≡ false → (given : List Tuple) → HasSeen place count given was →
      now.told.items ≡ told_after place count given tuples

-- a shard, of so many, tracks its vehicles by their reports among all tuples given, and what the last of those tell to
-- it, after the others, waits in order
pub record Awaits (place count : ℕ) (whole given rest : List Tuple) (s : Shard) : Type 0 where
  pub tracks : StandsFor s.tracker (own_of place count (reports whole))
  pub told : s.told.items ≡ told_after place count given rest
  pub serves : s.refused ≡ false

-- each shard tracks all tuples given, and what the last of them tell to it waits
abbrev pub Await : List Tuple → List Tuple → List Tuple → List Shard → Type 0
Await whole given rest shards = (place : ℕ) (d : Shard) → place < length shards →
    Awaits place (length shards) whole given rest (slice_index_or shards place d)
