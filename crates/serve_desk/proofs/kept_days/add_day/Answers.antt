use Rattle.std.proofs.Common.{◌≡◌, ◌++◌, OnOk, subst}
use Rattle.keep_office.specs.Office.{record_of}
use Rattle.serve_desk.specs.Days.{as_list}
use Rattle.serve_desk.proofs.SendLaws.{kept_is}
use Rattle.serve_desk.proofs.DayLaws.{counts_quiet, counts_err}
use Rattle.serve_desk.proofs.kept_days.add_day.Goals as goal

pub returns-in-Ok-clause-added : goal.returns-in-Ok-clause-added
returns-in-Ok-clause-added g c = λ o told.
    let found = kept_is _ _ o c.in-Ok.kept (λ o kept. kept ≡ record_of o c.args.day) told c.in-Ok.ensures.state in
    subst (λ k. OnOk c.add.result (c.add.new.days.items ≡ c.args.days.now.items ++ as_list k)) found
    c.add.ensures.added

pub returns-in-Ok-clause-cause : goal.returns-in-Ok-clause-cause
returns-in-Ok-clause-cause g c = counts_quiet _ _ c.in-Ok.kept c.add.result c.in-Ok.ensures.cause c.add.ensures.memory

pub returns-in-Err-clause-cause : goal.returns-in-Err-clause-cause
returns-in-Err-clause-cause g c = counts_err _ _ c.in-Err.fault c.in-Err.ensures.cause
