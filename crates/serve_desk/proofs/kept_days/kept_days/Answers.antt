use Rattle.std.proofs.Common.{◌≡◌, ◌≤◌, Ok, sym, subst, ◌∙◌}
use Rattle.std.specs.List.{AllByRecursion}
use Rattle.keep_office.specs.Office.{last_day}
use Rattle.keep_office.proofs.CallLaws.{reads_same}
use Rattle.serve_desk.proofs.SendLaws.{kept_is}
use Rattle.serve_desk.proofs.DayLaws.{days_last, counts_err, counts_after}
use Rattle.serve_desk.proofs.kept_days.kept_days.Goals as goal

pub returns-in-Ok-clause-found : goal.returns-in-Ok-clause-found
returns-in-Ok-clause-found g c = λ o told.
    let state = c.in-Ok.ensures.state in
    let after = reads_same _ _ (Ok c.in-Ok.last) (λ o last. last ≡ last_day o) state ∙ told in
    let found = kept_is _ _ o c.in-Ok.last (λ o last. last ≡ last_day o) told state in
    c.days_to.ensures.found o after
    (subst (λ n. AllByRecursion (λ r. r.day ≤ n) o.days) (sym found) (days_last o.days o.past))

pub returns-in-Ok-clause-cause : goal.returns-in-Ok-clause-cause
returns-in-Ok-clause-cause g c =
    counts_after _ _ _ c.in-Ok.last c.days_to.result c.in-Ok.ensures.cause c.days_to.ensures.cause

pub returns-in-Err-clause-cause : goal.returns-in-Err-clause-cause
returns-in-Err-clause-cause g c = counts_err _ _ c.in-Err.fault c.in-Err.ensures.cause
