use Rattle.std.proofs.Common.{◌≡◌, ◌∙◌, ℕ, List, Some, refl, sym, ap, subst}
use Rattle.road_time.specs.declared.road.Tuple.{Tuple}
use Rattle.road_time.specs.Reads.{reads}
use Rattle.road_time.specs.Rates.{Tariffs}
use Rattle.road_time.specs.Day.{given, notices}
use Rattle.road_time.specs.Text.{out}
use Rattle.road_time.specs.History.{paid}
use Rattle.day_floor.specs.Answers.{PaidHistory, history_of}
use Rattle.day_floor.specs.Closes.{IsClosed}
use Rattle.day_import.specs.WorkedDays.{AreRightFor}
use Rattle.day_import.specs.declared.outcomes.Outcome.{Outcome}
use Rattle.day_import.specs.Imports.{Work, work_of, work_by, answers_worked, answers_read, Does, LeavesRead}
use Rattle.day_import.specs.DayFaults.{WritesUpTo}
use Rattle.day_import.proofs.WorkLaws.{right_work}
use Rattle.day_import.proofs.FinishLaws.{tells_does, does_merges, stops_does, text_answered, where_worked}
use Rattle.day_import.proofs.FinishLaws.{tells_leaves, stops_leaves}
use Rattle.day_import.specs.Runs.{HasStartedJobs}
use Rattle.day_import.proofs.JobLaws.{started_all, started_first}
use Rattle.day_import.specs.Planned.{WorksPlanned}
use Rattle.day_import.proofs.JobLaws.{stops_unworked}
use Rattle.day_import.specs.Asked.{AsksBy}
use Rattle.day_import.proofs.AskedLaws.{told_asked, stopped_asked}
use Rattle.day_import.proofs.BlameLaws.{source_stopped}
use Rattle.day_import.proofs.answering.answer_under.Goals as goal

pub returns-in-Ok-clause-does : goal.returns-in-Ok-clause-does
returns-in-Ok-clause-does g c = λ exact bytes o left told under.
    let ran = c.in-Ok.ensures.ran in
    let w = g.K.Keeper.refuses in
    let number = c.args.terms.day in
    let refused = (reads bytes c.args.terms.limits c.args.terms.late).refused in
    let old = g.O.Sink.written c.args.sink.now in
    let new = g.O.Sink.written c.run_day.new.sink in
    let now = g.K.Keeper.told c.run_day.new.keeper in
    let result = c.finish_answers.result in
    let known : history_of (g.K.Keeper.told c.args.keeper.now) ≡ Some (paid o.rows) = ap history_of told in
    let closed =
    subst (λ (h : PaidHistory). IsClosed c.in-Ok.run'.closed number (given ran.found) number h ran.day) known
    ran.closed in
    let read = ran.read bytes left in
    let done = tells_does w number ran.found bytes ran.day o old new now c.in-Ok.run'
    (ran.wrote (paid o.rows) known) ran.count closed (c.run_day.ensures.same ∙ told) c.in-Ok.run'.end refused
    result read.1 (c.finish_answers.ensures.tells) in
    let right = subst (λ (t : Tariffs). AreRightFor ran.found ran.day t number) under (ran.right exact) in
    let by_rules =
    subst (λ (work : Work). Does w (answers_worked work bytes ran.day refused o) o old new now result)
    (right_work number ran.found ran.day o right) done in
    subst (λ (day : List Tuple). Does w (answers_read number bytes day refused o) o old new now result) read.0 by_rules

pub returns-in-Ok-clause-merged : goal.returns-in-Ok-clause-merged
returns-in-Ok-clause-merged g c = λ bytes o left told under.
    let ran = c.in-Ok.ensures.ran in
    let w = g.K.Keeper.refuses in
    let number = c.args.terms.day in
    let refused = (reads bytes c.args.terms.limits c.args.terms.late).refused in
    let old = g.O.Sink.written c.args.sink.now in
    let new = g.O.Sink.written c.run_day.new.sink in
    let now = g.K.Keeper.told c.run_day.new.keeper in
    let result = c.finish_answers.result in
    let known : history_of (g.K.Keeper.told c.args.keeper.now) ≡ Some (paid o.rows) = ap history_of told in
    let closed =
    subst (λ (h : PaidHistory). IsClosed c.in-Ok.run'.closed number (given ran.found) number h ran.day) known
    ran.closed in
    let read = ran.read bytes left in
    let done = tells_does w number ran.found bytes ran.day o old new now c.in-Ok.run'
    (ran.wrote (paid o.rows) known) ran.count closed (c.run_day.ensures.same ∙ told) c.in-Ok.run'.end refused
    result read.1 (c.finish_answers.ensures.tells) in
    let there =
    subst (λ (day : List Tuple). Does w (answers_worked (work_by ran.found number day o) bytes day refused o)
    o old new now result) read.0 done in
    record {
      found = ran.found;
      answers_are = where_worked result _ ran.found_are;
      merges =
          does_merges w _ o old new now result there;
    }

pub returns-in-Err-clause-does : goal.returns-in-Err-clause-does
returns-in-Err-clause-does g c = λ exact bytes o left told under.
    let w = g.K.Keeper.refuses in
    let number = c.args.terms.day in
    let day = (reads bytes c.args.terms.limits c.args.terms.late).tuples in
    let refused = (reads bytes c.args.terms.limits c.args.terms.late).refused in
    let old = g.O.Sink.written c.args.sink.now in
    let new = g.O.Sink.written c.run_day.new.sink in
    let now = g.K.Keeper.told c.run_day.new.keeper in
    let halted = c.in-Err.ensures.stopped in
    let some = halted.front exact bytes left (paid o.rows) (ap history_of told) in
    let ours = subst (λ (t : Tariffs). WritesUpTo c.in-Err.fault (out (notices day t number (paid o.rows))) old new)
    under some in
    let text =
    subst (λ (all : List ℕ). WritesUpTo c.in-Err.fault all old new)
    (sym (text_answered (work_of number day o) bytes day refused o)) ours in
    subst (λ (r : Outcome). Does w (answers_read number bytes day refused o) o old new now r) (sym c.stopped.ensures.is)
    (stops_does w (answers_read number bytes day refused o) o old new now c.in-Err.fault text
    (c.run_day.ensures.same ∙ told))

pub returns-in-Ok-clause-jobs : goal.returns-in-Ok-clause-jobs
returns-in-Ok-clause-jobs g c = λ bytes left.
    let ran = c.in-Ok.ensures.ran in
    let width = c.args.terms.plan.width in
    let backlog = c.args.terms.limits.backlog in
    let told = g.C.Crew.jobs c.args.crew.now in
    let now = g.C.Crew.jobs c.run_day.new.crew in
    let all =
    started_all width backlog ran.day told now c.finish_answers.result ran.started.0 ran.started.1 ran.started.2 in
    subst (λ (day : List Tuple). HasStartedJobs width backlog day told now c.finish_answers.result)
    (ran.read bytes left).0 all

pub returns-in-Err-clause-jobs : goal.returns-in-Err-clause-jobs
returns-in-Err-clause-jobs g c = λ bytes left.
    let some = c.in-Err.ensures.stopped.started bytes left in
    let told = g.C.Crew.jobs c.args.crew.now in
    let now = g.C.Crew.jobs c.run_day.new.crew in
    let width = c.args.terms.plan.width in
    let backlog = c.args.terms.limits.backlog in
    let day = (reads bytes c.args.terms.limits c.args.terms.late).tuples in
    subst (HasStartedJobs width backlog day told now) (sym c.stopped.ensures.is)
    (started_first width backlog day told now c.in-Err.fault some.0 some.1 some.2)

pub returns-in-Ok-clause-leaves : goal.returns-in-Ok-clause-leaves
returns-in-Ok-clause-leaves g c = λ bytes left.
    let refused = (reads bytes c.args.terms.limits c.args.terms.late).refused in
    let ends = (c.in-Ok.ensures.ran.read bytes left).1 in
    tells_leaves c.in-Ok.run' c.in-Ok.run'.end refused bytes
    (g.S.Source.left c.run_day.new.source) c.finish_answers.result ends (c.in-Ok.ensures.leaves bytes left)
    (c.finish_answers.ensures.tells)

pub returns-in-Err-clause-leaves : goal.returns-in-Err-clause-leaves
returns-in-Err-clause-leaves g c = λ bytes left.
    let refused = (reads bytes c.args.terms.limits c.args.terms.late).refused in
    let rest = g.S.Source.left c.run_day.new.source in
    subst (λ (r : Outcome). LeavesRead r refused bytes rest) (sym c.stopped.ensures.is)
    (stops_leaves c.in-Err.fault refused bytes rest)

pub returns-in-Ok-clause-planned : goal.returns-in-Ok-clause-planned
returns-in-Ok-clause-planned g c = λ bytes left.
    where_worked c.finish_answers.result _ (c.in-Ok.ensures.planned bytes left)

pub returns-in-Err-clause-planned : goal.returns-in-Err-clause-planned
returns-in-Err-clause-planned g c = λ bytes left.
    subst (WorksPlanned c.args.terms.plan c.args.terms.limits.backlog
    (reads bytes c.args.terms.limits c.args.terms.late).tuples
    (g.C.Crew.jobs c.args.crew.now) (g.C.Crew.jobs c.run_day.new.crew) (g.C.Crew.answers c.args.crew.now)
    (g.C.Crew.answers c.run_day.new.crew)) (sym c.stopped.ensures.is)
    (stops_unworked c.in-Err.fault _)

pub returns-in-Err-clause-source : goal.returns-in-Err-clause-source
returns-in-Err-clause-source g c =
    source_stopped c.in-Err.fault _ _ _ _ _ _ c.stopped.ensures.is refl c.in-Err.ensures.source

pub returns-in-Ok-clause-asked : goal.returns-in-Ok-clause-asked
returns-in-Ok-clause-asked g c =
    told_asked c.finish_answers.result _ _ c.finish_answers.ensures.own c.finish_answers.ensures.unasked
    c.in-Ok.ensures.asked

pub returns-in-Err-clause-asked : goal.returns-in-Err-clause-asked
returns-in-Err-clause-asked g c =
    subst (λ (o : Outcome). AsksBy 0 o (g.K.Keeper.plan c.args.keeper.now) (g.K.Keeper.plan c.run_day.new.keeper))
    (sym c.stopped.ensures.is) (stopped_asked c.in-Err.fault _ _ c.in-Err.ensures.asked)
