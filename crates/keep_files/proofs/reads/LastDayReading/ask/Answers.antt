use Rattle.std.proofs.Common.{ℕ, IsSome}
use Rattle.keep_office.specs.Office.{Office, last_day}
use Rattle.sqlite.specs.Held.{state}
use Rattle.keep_writes.specs.Causes.{WasRefused}
use Rattle.keep_files.specs.Does.{ReadFails}
use Rattle.keep_files.proofs.DoesLaws.{read_does, read_fails}
use Rattle.keep_files.proofs.reads.LastDayReading.ask.Goals as goal

pub returns-clause-does : goal.returns-clause-does
returns-clause-does g c =
    let takes : Office → Type 0 = λ o. IsSome o.past in
    read_does (WasRefused g.S.Store) (ReadFails g.S.Store takes c.args.kept.now c.last_day.new.self)
    (λ (x : ℕ). x)
    last_day
    (state g.S.Store c.args.kept.now.conn) (state g.S.Store c.last_day.new.self.conn)
    c.last_day.result
    c.last_day.ensures.kept c.last_day.ensures.gives
    (λ clean o stands. read_fails g.S.Store takes c.args.kept.now c.last_day.new.self o
    c.last_day.result c.last_day.ensures.quiet (c.last_day.ensures.why clean o stands)
    (c.last_day.ensures.memory clean o stands))
    c.last_day.ensures.crash c.last_day.ensures.open
