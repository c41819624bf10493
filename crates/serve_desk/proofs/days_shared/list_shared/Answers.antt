use Rattle.serve_desk.proofs.DayLaws.{counts_err, counts_after}
use Rattle.serve_desk.proofs.days_shared.list_shared.Goals as goal

pub returns-in-Ok-clause-cause : goal.returns-in-Ok-clause-cause
returns-in-Ok-clause-cause g c =
    counts_after _ _ _ c.in-Ok.last c.list_to.result c.in-Ok.ensures.cause c.list_to.ensures.cause

pub returns-in-Err-clause-cause : goal.returns-in-Err-clause-cause
returns-in-Err-clause-cause g c = counts_err _ _ c.in-Err.fault c.in-Err.ensures.cause
