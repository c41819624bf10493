use Rattle.std.proofs.Common.{Vec, Global, ◌≢◌, []}
use Rattle.road_time.specs.declared.day.SpentRow.{SpentRow}
use Rattle.keep_office.specs.Office.{Office, rows_between}
use Rattle.sqlite.specs.Held.{state}
use Rattle.keep_writes.specs.Causes.{WasRefused}
use Rattle.keep_files.specs.Does.{ReadFails}
use Rattle.keep_files.proofs.DoesLaws.{read_does, read_fails}
use Rattle.keep_files.proofs.reads.RowsReading.ask.Goals as goal

pub returns-clause-does : goal.returns-clause-does
returns-clause-does g c =
    let takes : Office → Type 0 = λ o. rows_between o c.args.self.from c.args.self.to ≢ [] in
    read_does (WasRefused g.S.Store) (ReadFails g.S.Store takes c.args.kept.now c.rows.new.self)
    (λ (v : Vec SpentRow Global). v.items)
    (λ o. rows_between o c.args.self.from c.args.self.to)
    (state g.S.Store c.args.kept.now.conn) (state g.S.Store c.rows.new.self.conn)
    c.rows.result
    c.rows.ensures.kept c.rows.ensures.gives
    (λ clean o stands. read_fails g.S.Store takes c.args.kept.now c.rows.new.self o c.rows.result c.rows.ensures.quiet
    (c.rows.ensures.why clean o stands) (c.rows.ensures.memory clean o stands)) c.rows.ensures.crash
    c.rows.ensures.open
