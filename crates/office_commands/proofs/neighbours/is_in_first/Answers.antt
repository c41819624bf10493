use Rattle.std.proofs.Common.{◌∙◌, subst}
use Rattle.std.proofs.lemmas.Result.{IfOk-weaker}
use Rattle.office_commands.specs.declared.aside.AsideEntry.{AsideEntry}
use Rattle.office_commands.specs.Listings.{StandsAt}
use Rattle.office_commands.proofs.ListingLaws.{in_first_line, in_first_long, in_first_end}
use Rattle.office_commands.proofs.neighbours.is_in_first.Goals as goal

pub returns-in-Line : goal.returns-in-Line
returns-in-Line c = λ after entries stands.
    let line = c.args.line.now in
    let at = subst (λ (e : AsideEntry). StandsAt e line after entries) c.in-Line.is stands in
    IfOk-weaker c.is_its_text.result _ _ (λ same h. h ∙ in_first_line c.args.notice.now line after entries at)
    c.is_its_text.ensures

pub returns-in-Long : goal.returns-in-Long
returns-in-Long c = λ after entries stands.
    let line = c.args.line.now in
    in_first_long c.args.notice.now line after entries
    (subst (λ (e : AsideEntry). StandsAt e line after entries) c.in-Long.is stands)

pub returns-in-End : goal.returns-in-End
returns-in-End c = λ after entries stands.
    let line = c.args.line.now in
    in_first_end c.args.notice.now line after entries
    (subst (λ (e : AsideEntry). StandsAt e line after entries) c.in-End.is stands)
