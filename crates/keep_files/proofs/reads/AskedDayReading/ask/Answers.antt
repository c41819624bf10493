use Rattle.std.proofs.Common.{Option, IsSome}
use Rattle.keep_office.specs.declared.kept.DayRecord.{DayRecord}
use Rattle.keep_office.specs.Office.{Office, record_of}
use Rattle.sqlite.specs.Held.{state}
use Rattle.keep_writes.specs.Causes.{WasRefused}
use Rattle.keep_files.specs.Does.{ReadFails}
use Rattle.keep_files.proofs.DoesLaws.{read_does, read_fails}
use Rattle.keep_files.proofs.reads.AskedDayReading.ask.Goals as goal

pub returns-clause-does : goal.returns-clause-does
returns-clause-does g c =
    let takes : Office → Type 0 = λ o. IsSome (record_of o c.args.self.day) in
    read_does (WasRefused g.S.Store) (ReadFails g.S.Store takes c.args.kept.now c.day.new.self)
    (λ (x : Option DayRecord). x)
    (λ o. record_of o c.args.self.day)
    (state g.S.Store c.args.kept.now.conn) (state g.S.Store c.day.new.self.conn)
    c.day.result
    c.day.ensures.kept c.day.ensures.gives
    (λ clean o stands. read_fails g.S.Store takes c.args.kept.now c.day.new.self o c.day.result c.day.ensures.quiet
    (c.day.ensures.why clean o stands) (c.day.ensures.memory clean o stands)) c.day.ensures.crash
    c.day.ensures.open
