use Rattle.std.proofs.Common.{◌≡◌, ◌<◌, ℕ, false, slice_index_or}
use Rattle.ways_audit.specs.declared.shard.Shard.{Shard as ShardValue}
use Rattle.ways_audit.proofs.shards.all_serve.Given as goal

abbrev pub invariant-loop-at : goal.invariant-loop-at
invariant-loop-at l = (place : ℕ) (d : ShardValue) → place < l.at → (slice_index_or l.shards place d).refused ≡ false
