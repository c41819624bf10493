use Rattle.std.proofs.Common.{◌≡◌, [], ◌∷◌, subst, to_z, of_z, w16, rules}
use Rattle.road_time.specs.declared.road.Notice.TheVariants.{Toll}
use Rattle.day_floor.specs.Answers.{alert_to}
use Rattle.road_io.specs.Levels.{Level}
use Rattle.day_floor.specs.Printing.{Says}
use Rattle.day_floor.proofs.PrintLaws.{says_then, says_longer}
use Rattle.day_floor.proofs.printer.Printer.put_told.Goals as goal

pub returns-in-Err-clause-says : goal.returns-in-Err-clause-says
returns-in-Err-clause-says g c =
    let a = c.args in
    says_longer c.in-Err.fault a.self.now c.put_alert.new.self (g.O.Sink.written a.sink.now, g.O.Sink.room a.sink.now)
    (g.O.Sink.written c.put_alert.new.sink, g.O.Sink.room c.put_alert.new.sink)
    (alert_to a.time a.vid a.found.alert) (Toll a.vid a.time a.found.lav a.found.toll ∷ []) c.in-Err.ensures.says

pub returns-clause-says : goal.returns-clause-says
returns-clause-says g c =
    let a = c.args in
    let w : Level = (g.O.Sink.written a.sink.now, g.O.Sink.room a.sink.now) in
    let v : Level = (g.O.Sink.written c.put_alert.new.sink, g.O.Sink.room c.put_alert.new.sink) in
    let z : Level = (g.O.Sink.written c.put.new.sink, g.O.Sink.room c.put.new.sink) in
    let lav = a.found.lav in
    let whole : to_z w16 (of_z w16 lav) ≡ lav = search rules in
    says_then c.put.result a.self.now c.put_alert.new.self c.put.new.self w v z (alert_to a.time a.vid a.found.alert)
    (Toll a.vid a.time lav a.found.toll ∷ []) c.in_default.ensures.says
    (subst (λ n. Says c.put.result c.put_alert.new.self c.put.new.self v z (Toll a.vid a.time n a.found.toll ∷ []))
    whole c.put.ensures.says)
