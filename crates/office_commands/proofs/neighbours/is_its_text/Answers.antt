use Rattle.std.proofs.Common.{◌∙◌}
use Rattle.std.proofs.lemmas.Result.{IfOk-weaker}
use Rattle.office_commands.proofs.ListingLaws.{text_of_short}
use Rattle.office_commands.proofs.neighbours.is_its_text.Goals as goal

pub returns : goal.returns
returns c = IfOk-weaker c.is_text_of.result _ _
    (λ same h. h ∙ text_of_short c.args.notice.now c.args.line.now c.requires.short) c.is_text_of.ensures
