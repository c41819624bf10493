use Rattle.std.proofs.Common.{◌≡◌, ◌∙◌, Err}
use Rattle.office_reports.specs.Endings.{AddsUp}
use Rattle.office_reports.specs.Statements.{day_text, day_report}
use Rattle.office_reports.specs.declared.report_fault.ReportFault.TheVariants.{WriteFault}
use Rattle.office_commands.specs.Commands.{day_command}
use Rattle.office_commands.proofs.KeepingLaws.{kept_same}
use Rattle.office_commands.proofs.OutcomeLaws.{by_sink, by_keeper}
use Rattle.office_commands.proofs.ReportLaws.{reported, report_office, well}
use Rattle.office_commands.proofs.statements.day.Goals as goal

pub returns-clause-wrote : goal.returns-clause-wrote
returns-clause-wrote g c = λ o told.
    reported c.args.day o (g.O.Sink.written c.args.sink.now) (g.O.Sink.written c.day_statement-done.new.sink)
    (day_report c.args.day o) c.day_statement-done.result c.reported.result c.reported.ensures.ends
    (c.day_statement-done.ensures.wrote o told)

pub returns-clause-keeps : goal.returns-clause-keeps
returns-clause-keeps g c = λ o told.
    kept_same g.K.Keeper.refuses (day_command c.args.day o) o (g.K.Keeper.told c.day_statement-done.new.keeper)
    c.reported.result (report_office c.args.day (day_report c.args.day o) o)
    (c.day_statement-done.ensures.kept ∙ told)

pub returns-clause-sums : goal.returns-clause-sums
returns-clause-sums g c =
    well c.args.day c.day_statement-done.result c.reported.result
    (AddsUp day_text (g.O.Sink.written c.args.sink.now) (g.O.Sink.written c.day_statement-done.new.sink))
    c.reported.ensures.ends c.day_statement-done.ensures.adds

pub returns-clause-sink : goal.returns-clause-sink
returns-clause-sink g c =
    by_sink (c.day_statement-done.result ≡ Err WriteFault) c.reported.result _ _ _ _ c.reported.ensures.failed
    c.reported.ensures.write_told c.day_statement-done.ensures.sink

pub returns-clause-keeper : goal.returns-clause-keeper
returns-clause-keeper g c = by_keeper _ _ _ _ _ c.reported.ensures.unkept c.reported.ensures.keeper_told
    c.day_statement-done.ensures.keeper
