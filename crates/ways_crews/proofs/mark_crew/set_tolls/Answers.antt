use Rattle.std.proofs.Common.{arith}
use Rattle.ways_crews.proofs.MarkLaws.{one_set}
use Rattle.ways_crews.proofs.mark_crew.set_tolls.Goals as goal

pub loop-finding-preserved : goal.loop-finding-preserved
loop-finding-preserved c =
    let same = c.loop-finding.auto.findings in
    let lt = c.loop-finding-test.true in
    one_set c.args.toll c.args.findings.now c.loop-finding.findings c.loop-finding.finding-index _
    (omega arith) c.loop-finding.invariant
