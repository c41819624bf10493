use Rattle.std.proofs.Common.{◌∙◌, ap}
use Rattle.std.proofs.lemmas.Result.{IfOk-weaker}
use Rattle.office_words.proofs.Steps.{adds}
use Rattle.office_words.proofs.table.with_days.Goals as goal

pub returns : goal.returns
returns c =
    IfOk-weaker c.with-4.result _ _
    (λ x h. h
    ∙ ap (adds 4)
    (c.in_ok-top-4.ensures
    ∙ ap (adds 3) (c.in_ok-top-3.ensures ∙ ap (adds 2) (c.in_ok-top-2.ensures ∙ ap (adds 1) c.in_ok-top.ensures))))
    c.with-4.ensures
