use Rattle.std.proofs.Common.{◌≡◌, ◌∙◌, ap, subst}
use Rattle.office_reports.specs.Charges.{charges_text, charges_report}
use Rattle.office_reports.specs.Endings.{WroteText}
use Rattle.office_reports.proofs.charged.charges_csv.Goals as goal

pub returns-in-Ok-charges_text-clause-wrote : goal.returns-in-Ok-charges_text-clause-wrote
returns-in-Ok-charges_text-clause-wrote g c = λ o told.
    let text : c.as_slice.result.now ≡ charges_report c.args.from c.args.to o =
    c.as_slice.ensures.value ∙ c.in-Ok-charges_text.ensures ∙ ap charges_text (c.in-Ok.ensures.exact o told) in
    subst (WroteText c.put_text.result (g.O.Sink.written c.args.sink.now) (g.O.Sink.written c.put_text.new.sink)) text
    c.put_text.ensures.wrote
