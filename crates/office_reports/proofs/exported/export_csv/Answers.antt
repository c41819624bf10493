use Rattle.std.proofs.Common.{◌≡◌, Option, Some, ap, sym, subst, ◌∙◌}
use Rattle.std.specs.Option.{option_map}
use Rattle.keep_office.specs.declared.kept.DayRecord.{DayRecord}
use Rattle.keep_office.specs.Office.{rows_between}
use Rattle.office_reports.specs.Endings.{Reported}
use Rattle.office_reports.specs.Exports.{export_text, export_report}
use Rattle.office_reports.proofs.EndingLaws.{reported}
use Rattle.office_reports.proofs.exported.export_csv.Goals as goal

pub returns-in-Ok-export_text-clause-wrote : goal.returns-in-Ok-export_text-clause-wrote
returns-in-Ok-export_text-clause-wrote g c = λ o told.
    let day = c.args.day in
    let found = c.in-Ok.ensures.found o told in
    let old = g.O.Sink.written c.args.sink.now in
    let new = g.O.Sink.written c.put_text.new.sink in
    let text : c.as_slice-in-Ok-export_text.result.now ≡ export_text (rows_between o day day) =
    c.as_slice-in-Ok-export_text.ensures.value ∙ c.in-Ok-export_text.ensures
    ∙ ap export_text (c.as_slice.ensures.value ∙ found.1) in
    let report : Some (export_text (rows_between o day day)) ≡ export_report day o =
    sym (ap (λ (r : Option DayRecord). option_map (λ _. export_text (rows_between o day day)) r) found.0) in
    subst (λ t. Reported c.put_text.result old new t) report
    (subst (λ t. Reported c.put_text.result old new (Some t)) text
    (reported c.put_text.result old new c.as_slice-in-Ok-export_text.result.now c.put_text.ensures.wrote
    c.put_text.ensures.own.0))
