use Rattle.std.proofs.Common.{◌∙◌, ap}
use Rattle.std.proofs.lemmas.Result.{IfOk-weaker}
use Rattle.office_words.proofs.Steps.{adds}
use Rattle.office_words.proofs.table.with_listings.Goals as goal

pub returns : goal.returns
returns c =
    IfOk-weaker c.with-3.result _ _
    (λ x h. h ∙ ap (adds 15) (c.in_ok-top-2.ensures ∙ ap (adds 14) c.in_ok-top.ensures)) c.with-3.ensures
