use Rattle.std.proofs.Common.{take}
use Rattle.ways_audit.proofs.OwnLaws.{Took}
use Rattle.ways_audit.proofs.shard.Shard.take_all.Given as goal

abbrev pub invariant-loop-tuple : goal.invariant-loop-tuple
invariant-loop-tuple l = Took l.place l.count l.fn.self l.self (take l.tuple-index l.tuples)
