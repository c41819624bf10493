use Rattle.std.proofs.Common.{take}
use Rattle.road_rules.specs.Payments.{amount_in}
use Rattle.road_rules.specs.Outputs.{IsOutput}
use Rattle.road_rules.proofs.output.outputs.Given as goal

abbrev pub invariant-loop-tuple : goal.invariant-loop-tuple
invariant-loop-tuple l =
    IsOutput l.gathered.tuples.now l.tariffs l.day (amount_in l.payments) l.output (take l.tuple-index l.gathered.tuples.now)
