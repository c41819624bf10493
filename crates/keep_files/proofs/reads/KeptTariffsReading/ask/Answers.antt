use Rattle.std.proofs.Common.{◌≢◌, []}
use Rattle.road_time.specs.Rates.{Tariffs}
use Rattle.keep_office.specs.Office.{Office}
use Rattle.sqlite.specs.Held.{state}
use Rattle.keep_writes.specs.Causes.{WasRefused}
use Rattle.keep_files.specs.Does.{ReadFails}
use Rattle.keep_files.proofs.DoesLaws.{read_does, read_fails}
use Rattle.keep_files.proofs.reads.KeptTariffsReading.ask.Goals as goal

pub returns-clause-does : goal.returns-clause-does
returns-clause-does g c =
    let takes : Office → Type 0 = λ o. o.tariffs ≢ [] in
    read_does (WasRefused g.S.Store) (ReadFails g.S.Store takes c.args.kept.now c.tariffs.new.self)
    (λ (x : Tariffs). x)
    (λ (o : Office). o.tariffs)
    (state g.S.Store c.args.kept.now.conn) (state g.S.Store c.tariffs.new.self.conn)
    c.tariffs.result
    c.tariffs.ensures.kept c.tariffs.ensures.gives
    (λ clean o stands. read_fails g.S.Store takes c.args.kept.now c.tariffs.new.self o
    c.tariffs.result c.tariffs.ensures.quiet (c.tariffs.ensures.why clean o stands)
    (c.tariffs.ensures.memory clean o stands))
    c.tariffs.ensures.crash c.tariffs.ensures.open
