use Rattle.day_floor.specs.Answers.{told_notices}
use Rattle.day_floor.proofs.PrintLaws.{says_no_memory}
use Rattle.day_floor.proofs.settler.Settler.settle_report.Goals as goal

pub returns-then-is_err-clause-says : goal.returns-then-is_err-clause-says
returns-then-is_err-clause-says g c =
    let a = c.args in
    says_no_memory a.self.now.printer a.self.now.printer (g.O.Sink.written a.sink.now, g.O.Sink.room a.sink.now)
    (told_notices a.told a.time a.vid a.found)
