use Rattle.std.proofs.Common.{Option, IsSome}
use Rattle.keep_office.specs.declared.kept.PastRecord.{PastRecord}
use Rattle.keep_office.specs.Office.{Office}
use Rattle.sqlite.specs.Held.{state}
use Rattle.keep_writes.specs.Causes.{WasRefused}
use Rattle.keep_files.specs.Does.{ReadFails}
use Rattle.keep_files.proofs.DoesLaws.{read_does, read_fails}
use Rattle.keep_files.proofs.reads.PastReading.ask.Goals as goal

pub returns-clause-does : goal.returns-clause-does
returns-clause-does g c =
    let takes : Office → Type 0 = λ o. IsSome o.past in
    read_does (WasRefused g.S.Store) (ReadFails g.S.Store takes c.args.kept.now c.past.new.self)
    (λ (x : Option PastRecord). x)
    (λ (o : Office). o.past)
    (state g.S.Store c.args.kept.now.conn) (state g.S.Store c.past.new.self.conn)
    c.past.result
    c.past.ensures.kept c.past.ensures.gives
    (λ clean o stands. read_fails g.S.Store takes c.args.kept.now c.past.new.self o c.past.result c.past.ensures.quiet
    (c.past.ensures.why clean o stands) (c.past.ensures.memory clean o stands)) c.past.ensures.crash
    c.past.ensures.open
