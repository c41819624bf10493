use Rattle.std.proofs.Common.{take, drop}
use Rattle.ways_audit.proofs.TakenLaws.{Taken}
use Rattle.ways_audit.proofs.shards.gather.Given as goal

abbrev pub invariant-loop-tuple : goal.invariant-loop-tuple
invariant-loop-tuple l = Taken l.fn.shards l.tuples l.shards l.list.items (take l.tuple-index l.tuples)
    (drop l.tuple-index l.tuples)
