use Rattle.std.proofs.Common.{◌≡◌}
use Rattle.keep_office.specs.Office.{last_day}
use Rattle.serve_desk.proofs.SendLaws.{kept_is}
use Rattle.serve_desk.proofs.DayLaws.{counts_ok, counts_err}
use Rattle.serve_desk.proofs.SharedLaws.{fails_of}
use Rattle.serve_desk.proofs.days_shared.last_shared.Goals as goal

pub returns-in-Ok-clause-seen : goal.returns-in-Ok-clause-seen
returns-in-Ok-clause-seen g c =
    let s = c.in-Ok.ensures.shared in (
      s.was,
      λ o told. (kept_is (g.K.Keeper.told s.was) (g.K.Keeper.told s.now) o c.in-Ok.last (λ o last. last ≡ last_day o) told
          s.reads),
    )

pub returns-in-Ok-clause-cause : goal.returns-in-Ok-clause-cause
returns-in-Ok-clause-cause g c = counts_ok _ _ c.in-Ok.last c.in-Ok.last c.in-Ok.ensures.cause

pub returns-in-Err-clause-cause : goal.returns-in-Err-clause-cause
returns-in-Err-clause-cause g c = counts_err _ _ c.in-Err.fault c.in-Err.ensures.cause

pub returns-in-Err-clause-fails : goal.returns-in-Err-clause-fails
returns-in-Err-clause-fails g c =
    fails_of g.K.Keeper.told g.K.Keeper.faults c.in-Err.fault c.in-Err.ensures.shared
