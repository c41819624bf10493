use Rattle.std.proofs.Common.{◌≡◌, ◌∙◌, List, Some, sym, subst}
use Rattle.keep_office.proofs.CallLaws.{reads_same, reads_ok}
use Rattle.road_time.specs.declared.road.Tuple.{Tuple}
use Rattle.road_time.specs.Reads.{reads}
use Rattle.day_reading.proofs.BoundLaws.{nothing_read}
use Rattle.day_verify.specs.declared.verdict.Verdict.{Verdict}
use Rattle.day_verify.proofs.VerdictLaws.{refused_leaves}
use Rattle.day_verify.specs.Verdicts.{LeavesRead}
use Rattle.day_verify.specs.Jobs.{StartsJobs}
use Rattle.day_verify.proofs.JobLaws.{none_started, refused_unread}
use Rattle.day_verify.proofs.verifying.verify_kept.Goals as goal

pub returns-in-Ok-clause-says : goal.returns-in-Ok-clause-says
returns-in-Ok-clause-says g c = λ exact bytes o left told.
    let before = g.K.Keeper.told c.args.keeper.now in
    let after = g.K.Keeper.told c.tariffs.new.self in
    let kept : after ≡ Some o = reads_same before after c.tariffs.result (λ p t. t ≡ p.tariffs) c.tariffs.ensures.state
    ∙ told in
    let under = reads_ok before after c.tariffs.result (λ p t. t ≡ p.tariffs) o c.in-Ok.tariffs c.tariffs.ensures.state
    told cc in
    c.verify_sealed.ensures.says exact bytes o left kept under

pub returns-in-Err-clause-jobs : goal.returns-in-Err-clause-jobs
returns-in-Err-clause-jobs g c = λ bytes left.
    let day : List Tuple = (reads bytes c.args.terms.limits c.args.terms.late).tuples in
    let told = g.C.Crew.jobs c.args.crew.now in
    let answers = g.C.Crew.answers c.args.crew.now in
    subst (StartsJobs c.args.terms.plan c.args.terms.limits.backlog day told told answers answers)
    (sym c.refused.ensures)
    (none_started c.args.terms.plan c.args.terms.limits.backlog day told answers _ (refused_unread c.in-Err.fault))

pub returns-in-Err-clause-reads : goal.returns-in-Err-clause-reads
returns-in-Err-clause-reads g c = record {
  within = nothing_read _ _;
  leaves = λ bytes left.
      subst (λ (v : Verdict). LeavesRead v (reads bytes c.args.terms.limits c.args.terms.late).refused bytes
      (g.S.Source.left c.args.source.now)) (sym c.refused.ensures) (refused_leaves c.in-Err.fault _ bytes _);
}
