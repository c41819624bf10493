use Rattle.std.proofs.Common.{◌≡◌, ◌∙◌, refl, Err}
use Rattle.office_reports.specs.Statements.{vehicle_report}
use Rattle.office_reports.specs.declared.report_fault.ReportFault.TheVariants.{WriteFault}
use Rattle.office_commands.specs.Commands.{vehicle_command}
use Rattle.office_commands.proofs.KeepingLaws.{kept_same}
use Rattle.office_commands.proofs.OutcomeLaws.{by_sink, by_keeper}
use Rattle.office_commands.proofs.ReportLaws.{stated}
use Rattle.office_commands.proofs.statements.vehicle.Goals as goal

pub returns-clause-wrote : goal.returns-clause-wrote
returns-clause-wrote g c = λ o told.
    stated c.args.from o (g.O.Sink.written c.args.sink.now) (g.O.Sink.written c.vehicle_statement-done.new.sink)
    (vehicle_report c.args.vid c.args.from c.args.to o) c.vehicle_statement-done.result c.reported.result
    c.reported.ensures.ends c.vehicle_statement-done.ensures.own.0 (c.vehicle_statement-done.ensures.wrote o told)

pub returns-clause-keeps : goal.returns-clause-keeps
returns-clause-keeps g c = λ o told.
    kept_same g.K.Keeper.refuses (vehicle_command c.args.vid c.args.from c.args.to o) o
    (g.K.Keeper.told c.vehicle_statement-done.new.keeper) c.reported.result refl
    (c.vehicle_statement-done.ensures.kept ∙ told)

pub returns-clause-sink : goal.returns-clause-sink
returns-clause-sink g c =
    by_sink (c.vehicle_statement-done.result ≡ Err WriteFault) c.reported.result _ _ _ _ c.reported.ensures.failed
    c.reported.ensures.write_told c.vehicle_statement-done.ensures.sink

pub returns-clause-keeper : goal.returns-clause-keeper
returns-clause-keeper g c = by_keeper _ _ _ _ _ c.reported.ensures.unkept c.reported.ensures.keeper_told
    c.vehicle_statement-done.ensures.keeper
