use Rattle.std.proofs.Common.{drop}
use Rattle.ways_audit.proofs.PlaceLaws.{Through}
use Rattle.ways_audit.proofs.shard.Shard.take_own.Given as goal

abbrev pub invariant-loop-at : goal.invariant-loop-at
invariant-loop-at l = Through l.place l.count l.fn.self l.self l.tuples (drop l.at-index l.places)
