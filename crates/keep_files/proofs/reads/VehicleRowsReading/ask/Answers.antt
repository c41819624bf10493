use Rattle.std.proofs.Common.{Vec, Global, ◌≢◌, []}
use Rattle.road_time.specs.declared.day.SpentRow.{SpentRow}
use Rattle.keep_office.specs.Office.{Office, vehicle_rows_between}
use Rattle.sqlite.specs.Held.{state}
use Rattle.keep_writes.specs.Causes.{WasRefused}
use Rattle.keep_files.specs.Does.{ReadFails}
use Rattle.keep_files.proofs.DoesLaws.{read_does, read_fails}
use Rattle.keep_files.proofs.reads.VehicleRowsReading.ask.Goals as goal

pub returns-clause-does : goal.returns-clause-does
returns-clause-does g c =
    let takes : Office → Type 0 = λ o. vehicle_rows_between o c.args.self.vid c.args.self.from c.args.self.to ≢ [] in
    read_does (WasRefused g.S.Store) (ReadFails g.S.Store takes c.args.kept.now c.vehicle_rows.new.self)
    (λ (v : Vec SpentRow Global). v.items)
    (λ o. vehicle_rows_between o c.args.self.vid c.args.self.from c.args.self.to)
    (state g.S.Store c.args.kept.now.conn) (state g.S.Store c.vehicle_rows.new.self.conn)
    c.vehicle_rows.result
    c.vehicle_rows.ensures.kept c.vehicle_rows.ensures.gives
    (λ clean o stands. read_fails g.S.Store takes c.args.kept.now c.vehicle_rows.new.self o
    c.vehicle_rows.result c.vehicle_rows.ensures.quiet (c.vehicle_rows.ensures.why clean o stands)
    (c.vehicle_rows.ensures.memory clean o stands))
    c.vehicle_rows.ensures.crash c.vehicle_rows.ensures.open
