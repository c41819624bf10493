use Rattle.ways_audit.proofs.ClosingLaws.{slot_is}
use Rattle.ways_audit.proofs.closing.slot_for.Goals as goal

pub returns-in-Some : goal.returns-in-Some
returns-in-Some c = λ finding before told here.
    slot_is finding before c.args.tuple.now c.in-Report.report c.in-Some.told c.args.tracked c.args.found
    c.of_report.result c.in-Report.is c.in-Some.is told here c.of_report.ensures
