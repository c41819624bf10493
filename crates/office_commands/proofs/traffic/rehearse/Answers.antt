use Rattle.std.proofs.Common.{◌∙◌, [], Some, refl, sym, ap, subst, ◌≡◌, IsOk, arith}
use Rattle.office_commands.specs.declared.closing.Closing.{Closing}
use Rattle.office_commands.specs.Commands.{rehearse_command}
use Rattle.office_commands.specs.Endings.{StandsBefore}
use Rattle.road_time.specs.declared.day.TheConstants.Limits.{DAY}
use Rattle.tuples_traffic.specs.declared.plan.GenPlan.{GenPlan}
use Rattle.tuples_traffic.specs.Traffic.{generated}
use Rattle.office_commands.specs.declared.closing.Closing.TheVariants.{NoMemory}
use Rattle.office_commands.specs.Closings.{status_of}
use Rattle.office_commands.specs.Starts.{StartsDay, backlog_of}
use Rattle.office_commands.proofs.StartLaws.{day_weaker}
use Rattle.office_commands.specs.Traffic.{rehearsed, rehearsed_record}
use Rattle.office_commands.proofs.traffic.rehearse.Goals as goal

pub returns-in-Ok-clause-exact : goal.returns-in-Ok-clause-exact
returns-in-Ok-clause-exact g c = λ right o.
    subst (λ (k : Closing). StandsBefore (rehearse_command c.args.seed c.args.size c.args.run o) k [])
    (sym c.closing_of.ensures) (
      ap (λ r. Some (rehearsed r))
          (c.in-Ok.ensures.kept right ∙ ap (rehearsed_record c.args.run.day) c.plan_for-plan.ensures.plan),
      refl,
    )

pub returns-in-Ok-clause-jobs : goal.returns-in-Ok-clause-jobs
returns-in-Ok-clause-jobs g c =
    let ok : IsOk c.rehearse_plan.result = subst IsOk (sym c.in-Ok.is) refl in
    subst (λ (p : GenPlan). StartsDay c.args.run (backlog_of c.args.run DAY) (generated p) (status_of c.closing_of.result ≡ 0)
    (g.C.Crew.jobs c.args.crew.now) (g.C.Crew.jobs c.rehearse_plan.new.crew)) c.plan_for-plan.ensures.plan
    (day_weaker c.args.run (backlog_of c.args.run DAY) (generated c.plan_for-plan.result) (IsOk c.rehearse_plan.result)
    (status_of c.closing_of.result ≡ 0) _ _ (λ zero. ok) c.rehearse_plan.ensures.jobs)

pub returns-in-Err-clause-jobs : goal.returns-in-Err-clause-jobs
returns-in-Err-clause-jobs g c =
    subst (λ (p : GenPlan). StartsDay c.args.run (backlog_of c.args.run DAY) (generated p) (status_of NoMemory ≡ 0)
    (g.C.Crew.jobs c.args.crew.now) (g.C.Crew.jobs c.rehearse_plan.new.crew)) c.plan_for-plan.ensures.plan
    (day_weaker c.args.run (backlog_of c.args.run DAY) (generated c.plan_for-plan.result) (IsOk c.rehearse_plan.result)
    (status_of NoMemory ≡ 0) _ _ (λ zero. absurd (omega (arith, zero))) c.rehearse_plan.ensures.jobs)
