use Rattle.std.proofs.Common.{◌≡◌, ◌∙◌, List, Option, Some, Ok, sym, subst}
use Rattle.road_time.specs.declared.road.Tuple.{Tuple}
use Rattle.road_time.specs.Reads.{reads}
use Rattle.keep_office.specs.declared.kept.DayRecord.{DayRecord}
use Rattle.keep_office.specs.Office.{record_of}
use Rattle.keep_office.proofs.CallLaws.{reads_same, reads_ok}
use Rattle.day_verify.specs.Verdicts.{Says, recorded_verdict, LeavesRead}
use Rattle.day_reading.proofs.BoundLaws.{nothing_read}
use Rattle.day_verify.specs.declared.verdict.Verdict.{Verdict}
use Rattle.day_verify.proofs.VerdictLaws.{refused_leaves}
use Rattle.day_verify.specs.Jobs.{StartsJobs}
use Rattle.day_verify.proofs.JobLaws.{none_started, refused_unread}
use Rattle.day_verify.proofs.verifying.verify.Goals as goal

pub returns-in-Ok-Some-clause-says : goal.returns-in-Ok-Some-clause-says
returns-in-Ok-Some-clause-says g c = λ exact bytes o left told.
    let before = g.K.Keeper.told c.args.keeper.now in
    let after = g.K.Keeper.told c.day.new.self in
    let number = c.args.terms.day in
    let kept : after ≡ Some o =
    reads_same before after c.day.result (λ p kept. kept ≡ record_of p number) c.day.ensures.state ∙ told in
    let ok : c.day.result ≡ Ok (Some c.in-Ok-Some.kept) = cc in
    let some : Some c.in-Ok-Some.kept ≡ record_of o number =
    reads_ok before after c.day.result (λ p kept. kept ≡ record_of p number) o (Some c.in-Ok-Some.kept)
    c.day.ensures.state told ok in
    subst (λ (r : Option DayRecord). Says (recorded_verdict r number c.args.terms.late c.args.terms.limits bytes o)
    c.verify_kept.result) some (c.verify_kept.ensures.says exact bytes o left kept)

pub returns-in-Ok-None-clause-jobs : goal.returns-in-Ok-None-clause-jobs
returns-in-Ok-None-clause-jobs g c = λ bytes left. none_started _ _ _ _ _ _ (λ P. tt)

pub returns-in-Err-clause-jobs : goal.returns-in-Err-clause-jobs
returns-in-Err-clause-jobs g c = λ bytes left.
    let day : List Tuple = (reads bytes c.args.terms.limits c.args.terms.late).tuples in
    let told = g.C.Crew.jobs c.args.crew.now in
    let answers = g.C.Crew.answers c.args.crew.now in
    subst (StartsJobs c.args.terms.plan c.args.terms.limits.backlog day told told answers answers)
    (sym c.refused.ensures)
    (none_started c.args.terms.plan c.args.terms.limits.backlog day told answers _ (refused_unread c.in-Err.fault))

pub returns-in-Ok-None-clause-reads : goal.returns-in-Ok-None-clause-reads
returns-in-Ok-None-clause-reads g c = record { within = nothing_read _ _; leaves = λ bytes left. tt }

pub returns-in-Err-clause-reads : goal.returns-in-Err-clause-reads
returns-in-Err-clause-reads g c = record {
  within = nothing_read _ _;
  leaves = λ bytes left.
      subst (λ (v : Verdict). LeavesRead v (reads bytes c.args.terms.limits c.args.terms.late).refused bytes
      (g.S.Source.left c.args.source.now)) (sym c.refused.ensures) (refused_leaves c.in-Err.fault _ bytes _);
}
