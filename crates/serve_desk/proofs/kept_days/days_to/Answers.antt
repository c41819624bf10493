use Rattle.std.proofs.Common.{◌≤◌, sym, subst}
use Rattle.std.specs.List.{AllByRecursion}
use Rattle.serve_desk.proofs.DayLaws.{days_first, counts_err, counts_after, sound_is}
use Rattle.serve_desk.proofs.kept_days.days_to.Goals as goal

pub returns-in-Ok-clause-found : goal.returns-in-Ok-clause-found
returns-in-Ok-clause-found g c = λ o told last.
    let after = c.in-Ok.ensures.told o told in
    let sound = sound_is _ o after c.in-Ok.ensures.sound in
    c.days_from.ensures.found o after
    (subst (λ n. AllByRecursion (λ r. n ≤ r.day) o.days) (sym (c.in-Ok.ensures.first o told)) (days_first o sound)) last

pub returns-in-Ok-clause-cause : goal.returns-in-Ok-clause-cause
returns-in-Ok-clause-cause g c =
    counts_after _ _ _ c.in-Ok.first c.days_from.result c.in-Ok.ensures.cause c.days_from.ensures.cause

pub returns-in-Err-clause-cause : goal.returns-in-Err-clause-cause
returns-in-Err-clause-cause g c = counts_err _ _ c.in-Err.fault c.in-Err.ensures.cause
