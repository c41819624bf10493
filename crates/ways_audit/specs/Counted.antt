-- What was seen of a day by shards of its vehicles.
use Rattle.std.specs.Prelude.{ℕ, List}

-- a list of what a day tells, and by how many shards of its vehicles that was seen; by none where it was not seen by
-- shards
pub record ByShards (X : Type 0) : Type 0 where
  pub list : List X
  pub shards : ℕ
