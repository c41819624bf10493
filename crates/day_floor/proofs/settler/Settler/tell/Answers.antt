use Rattle.std.proofs.Common.{◌≡◌, false, Ok, subst, sym, rules}
use Rattle.day_floor.specs.Answers.{told_notices}
use Rattle.road_io.specs.Levels.{Level}
use Rattle.day_floor.specs.Printing.{Says}
use Rattle.day_floor.proofs.PrintLaws.{says_none}
use Rattle.day_floor.proofs.settler.Settler.tell.Goals as goal

pub returns-then-not-told-clause-says : goal.returns-then-not-told-clause-says
returns-then-not-told-clause-says g c =
    let a = c.args in
    let p = a.self.now.printer in
    let w : Level = (g.O.Sink.written a.sink.now, g.O.Sink.room a.sink.now) in
    let off : a.told ≡ false = search rules in
    subst (λ told. Says {T = Unit {0}} (Ok tt) p p w w (told_notices told a.time a.vid a.found)) (sym off)
    (says_none p w)
