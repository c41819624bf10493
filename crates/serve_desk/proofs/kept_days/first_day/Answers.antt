use Rattle.std.proofs.Common.{◌≡◌, ap, ◌∙◌}
use Rattle.serve_desk.specs.Days.{first_day}
use Rattle.serve_desk.proofs.SendLaws.{kept_is}
use Rattle.serve_desk.proofs.DayLaws.{counts_ok, counts_err}
use Rattle.serve_desk.proofs.kept_days.first_day.Goals as goal

pub returns-in-Ok-clause-first : goal.returns-in-Ok-clause-first
returns-in-Ok-clause-first g c = λ o told.
    let found = kept_is _ _ o c.in-Ok.past (λ o past. past ≡ o.past) told c.in-Ok.ensures.state in
    c.first_of.ensures ∙ ap first_day found

pub returns-in-Ok-clause-cause : goal.returns-in-Ok-clause-cause
returns-in-Ok-clause-cause g c = counts_ok _ _ c.in-Ok.past c.first_of.result c.in-Ok.ensures.cause

pub returns-in-Err-clause-cause : goal.returns-in-Err-clause-cause
returns-in-Err-clause-cause g c = counts_err _ _ c.in-Err.fault c.in-Err.ensures.cause
