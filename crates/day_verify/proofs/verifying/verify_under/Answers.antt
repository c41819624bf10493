use Rattle.std.proofs.Common.{◌≡◌, ◌∙◌, List, Some, refl, sym, ap, subst}
use Rattle.road_time.specs.declared.road.Tuple.{Tuple}
use Rattle.road_time.specs.Reads.{reads}
use Rattle.road_time.specs.Rates.{Tariffs}
use Rattle.road_time.specs.Day.{given}
use Rattle.road_time.specs.History.{paid}
use Rattle.day_floor.specs.Answers.{PaidHistory, history_of}
use Rattle.day_floor.specs.Closes.{IsClosed}
use Rattle.day_import.specs.WorkedDays.{AreRightFor}
use Rattle.day_import.specs.Imports.{Work, work_of}
use Rattle.day_verify.specs.declared.verdict.Verdict.{Verdict}
use Rattle.day_verify.specs.Verdicts.{Says, read_verdict, kept_verdict, LeavesRead}
use Rattle.day_verify.proofs.VerdictLaws.{finish_says, right_work, stops_says, source_stopped}
use Rattle.day_verify.proofs.VerdictLaws.{leaves_read, stops_leaves}
use Rattle.day_verify.specs.Jobs.{StartsJobs}
use Rattle.day_verify.proofs.JobLaws.{started_all, started_first}
use Rattle.day_import.specs.WorkedDays.{HaveAllStarted}
use Rattle.day_verify.proofs.verifying.verify_under.Goals as goal

pub returns-in-Ok-clause-says : goal.returns-in-Ok-clause-says
returns-in-Ok-clause-says g c = λ exact bytes o left told under.
    let ran = c.in-Ok.ensures.ran in
    let number = c.args.terms.day in
    let kept = c.args.kept.now in
    let refused = (reads bytes c.args.terms.limits c.args.terms.late).refused in
    let known : history_of (g.K.Keeper.told c.args.keeper.now) ≡ Some (paid o.rows) = ap history_of told in
    let closed =
    subst (λ (h : PaidHistory). IsClosed c.in-Ok.run'.closed number (given ran.found) number h ran.day) known
    ran.closed in
    let read = ran.read bytes left in
    let said = finish_says number kept ran.found bytes ran.day o c.in-Ok.run' ran.count closed c.in-Ok.run'.end refused
    c.finish.result read.1 (c.finish.ensures.finishes o (c.run_day.ensures.same ∙ told)) in
    let right = subst (λ (t : Tariffs). AreRightFor ran.found ran.day t number) under (ran.right exact) in
    let by_rules =
    subst (λ (work : Work). Says (read_verdict kept work number bytes ran.day refused o) c.finish.result)
    (right_work number ran.found ran.day o right) said in
    subst (λ (day : List Tuple). Says (read_verdict kept (work_of number day o) number bytes day refused o)
    c.finish.result) read.0 by_rules

pub returns-in-Err-clause-says : goal.returns-in-Err-clause-says
returns-in-Err-clause-says g c = λ exact bytes o left told under.
    subst (Says (kept_verdict c.args.kept.now c.args.terms.day c.args.terms.late c.args.terms.limits bytes o))
    (sym c.stopped.ensures) (stops_says _ c.in-Err.fault)

pub returns-in-Err-clause-source : goal.returns-in-Err-clause-source
returns-in-Err-clause-source g c =
    source_stopped c.in-Err.fault _ _ _ _ _ _ c.stopped.ensures refl (c.in-Err.ensures.sink.sure refl).0
    c.in-Err.ensures.source

pub returns-in-Ok-clause-jobs : goal.returns-in-Ok-clause-jobs
returns-in-Ok-clause-jobs g c = λ bytes left.
    let ran = c.in-Ok.ensures.ran in
    let plan = c.args.terms.plan in
    let backlog = c.args.terms.limits.backlog in
    let day : List Tuple = (reads bytes c.args.terms.limits c.args.terms.late).tuples in
    let all =
    subst (λ (xs : List Tuple). HaveAllStarted plan.width backlog xs ran.started.0) (ran.read bytes left).0
    ran.started.1 in
    started_all plan backlog day _ _ _ _ c.finish.result ran.started.0 all ran.started.2
    (c.in-Ok.ensures.planned bytes left)

pub returns-in-Err-clause-jobs : goal.returns-in-Err-clause-jobs
returns-in-Err-clause-jobs g c = λ bytes left.
    let some = c.in-Err.ensures.stopped.started bytes left in
    let day : List Tuple = (reads bytes c.args.terms.limits c.args.terms.late).tuples in
    subst (StartsJobs c.args.terms.plan c.args.terms.limits.backlog day (g.C.Crew.jobs c.args.crew.now)
    (g.C.Crew.jobs c.run_day.new.crew) (g.C.Crew.answers c.args.crew.now) (g.C.Crew.answers c.run_day.new.crew))
    (sym c.stopped.ensures)
    (started_first c.args.terms.plan c.args.terms.limits.backlog day _ _ _ _ c.in-Err.fault some.0 some.1 some.2)

pub returns-in-Ok-clause-reads : goal.returns-in-Ok-clause-reads
returns-in-Ok-clause-reads g c = record {
  within = c.run_day.ensures.bounded;
  leaves = λ bytes left.
      leaves_read c.in-Ok.run'.end _ bytes _ c.finish.result (c.in-Ok.ensures.ran.read bytes left).1
      (c.in-Ok.ensures.leaves bytes left) c.finish.ensures.of_end;
}

pub returns-in-Err-clause-reads : goal.returns-in-Err-clause-reads
returns-in-Err-clause-reads g c = record {
  within = c.run_day.ensures.bounded;
  leaves = λ bytes left.
      subst (λ (v : Verdict). LeavesRead v (reads bytes c.args.terms.limits c.args.terms.late).refused bytes
      (g.S.Source.left c.run_day.new.source)) (sym c.stopped.ensures) (stops_leaves c.in-Err.fault _ bytes _);
}
