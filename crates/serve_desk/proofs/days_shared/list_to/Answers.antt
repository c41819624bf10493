use Rattle.serve_desk.proofs.DayLaws.{counts_err, counts_after}
use Rattle.serve_desk.proofs.SharedLaws.{lists_days}
use Rattle.serve_desk.proofs.days_shared.list_to.Goals as goal

pub returns-in-Ok-clause-lists : goal.returns-in-Ok-clause-lists
returns-in-Ok-clause-lists g c =
    let (at_last, is_last) = c.requires in
    let (at_first, is_first) = c.in-Ok.ensures.seen in
    lists_days g.K.Keeper.told c.in-Ok.first c.args.last at_first at_last is_first is_last c.list_from.result
    c.list_from.ensures.lists

pub returns-in-Ok-clause-cause : goal.returns-in-Ok-clause-cause
returns-in-Ok-clause-cause g c =
    counts_after _ _ _ c.in-Ok.first c.list_from.result c.in-Ok.ensures.cause c.list_from.ensures.cause

pub returns-in-Err-clause-cause : goal.returns-in-Err-clause-cause
returns-in-Err-clause-cause g c = counts_err _ _ c.in-Err.fault c.in-Err.ensures.cause
