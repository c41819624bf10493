use Rattle.std.proofs.Common.{ℕ, inl}
use Rattle.road_time.specs.History.{paid}
use Rattle.keep_office.specs.Office.{Office}
use Rattle.sqlite.specs.Held.{state}
use Rattle.keep_writes.specs.Causes.{WasRefused}
use Rattle.keep_files.specs.Does.{ReadFails}
use Rattle.keep_files.proofs.DoesLaws.{read_does, read_fails}
use Rattle.keep_files.proofs.reads.AskedSpentReading.ask.Goals as goal

pub returns-clause-does : goal.returns-clause-does
returns-clause-does g c =
    let takes : Office → Type 0 = λ o. ⊥ in
    read_does (WasRefused g.S.Store) (ReadFails g.S.Store takes c.args.kept.now c.spent.new.self)
    (λ (x : ℕ). x)
    (λ (o : Office). paid o.rows c.args.self.day c.args.self.vid c.args.self.xway)
    (state g.S.Store c.args.kept.now.conn) (state g.S.Store c.spent.new.self.conn)
    c.spent.result
    c.spent.ensures.kept c.spent.ensures.gives
    (λ clean o stands. read_fails g.S.Store takes c.args.kept.now c.spent.new.self o
    c.spent.result c.spent.ensures.quiet (c.spent.ensures.why clean o stands)
    (λ none. inl (c.spent.ensures.memory clean o stands none)))
    c.spent.ensures.crash c.spent.ensures.open
