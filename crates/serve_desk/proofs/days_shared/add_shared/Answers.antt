use Rattle.std.proofs.Common.{◌≡◌}
use Rattle.keep_office.specs.Office.{record_of}
use Rattle.serve_desk.proofs.SendLaws.{kept_is}
use Rattle.serve_desk.proofs.DayLaws.{counts_quiet, counts_err}
use Rattle.serve_desk.proofs.SharedLaws.{added_of, fails_of, fails_never}
use Rattle.serve_desk.proofs.days_shared.add_shared.Goals as goal

pub returns-in-Ok-clause-added : goal.returns-in-Ok-clause-added
returns-in-Ok-clause-added g c =
    let s = c.in-Ok.ensures.shared in
    added_of g.K.Keeper.told s.was c.in-Ok.kept c.args.day c.args.days.now.items c.add.new.days.items c.add.result
    c.add.ensures.added
    (λ o told. kept_is (g.K.Keeper.told s.was) (g.K.Keeper.told s.now) o c.in-Ok.kept
    (λ o kept. kept ≡ record_of o c.args.day) told s.reads)

pub returns-in-Ok-clause-cause : goal.returns-in-Ok-clause-cause
returns-in-Ok-clause-cause g c = counts_quiet _ _ c.in-Ok.kept c.add.result c.in-Ok.ensures.cause c.add.ensures.memory

pub returns-in-Err-clause-cause : goal.returns-in-Err-clause-cause
returns-in-Err-clause-cause g c = counts_err _ _ c.in-Err.fault c.in-Err.ensures.cause

pub returns-in-Ok-clause-fails : goal.returns-in-Ok-clause-fails
returns-in-Ok-clause-fails g c = fails_never g.K.Keeper.faults c.add.result c.add.ensures.memory

pub returns-in-Err-clause-fails : goal.returns-in-Err-clause-fails
returns-in-Err-clause-fails g c =
    fails_of g.K.Keeper.told g.K.Keeper.faults c.in-Err.fault c.in-Err.ensures.shared
