use Rattle.std.proofs.Common.{Ok, subst, sym}
use Rattle.day_floor.specs.Answers.{alert_to}
use Rattle.road_io.specs.Levels.{Level}
use Rattle.day_floor.specs.Printing.{Says}
use Rattle.day_floor.proofs.PrintLaws.{says_none}
use Rattle.day_floor.proofs.printer.Printer.put_alert.Goals as goal

pub returns-in-None-clause-says : goal.returns-in-None-clause-says
returns-in-None-clause-says g c =
    let a = c.args in
    let p = a.self.now in
    let w : Level = (g.O.Sink.written a.sink.now, g.O.Sink.room a.sink.now) in
    subst (λ alert. Says {T = Unit {0}} (Ok tt) p p w w (alert_to a.time a.vid alert)) (sym c.in-None.is)
    (says_none p w)
