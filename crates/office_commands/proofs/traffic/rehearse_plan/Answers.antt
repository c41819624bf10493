use Rattle.std.proofs.Common.{◌≡◌, ◌∙◌, List, IsOk, subst}
use Rattle.std.proofs.lemmas.Result.{IfOk-weaker, err_from_is_err_and}
use Rattle.road_time.specs.declared.day.TheConstants.Limits.{DAY}
use Rattle.road_time.specs.declared.road.Tuple.{Tuple}
use Rattle.office_commands.specs.Starts.{StartsDay, backlog_of}
use Rattle.office_commands.proofs.StartLaws.{day_none, not_ok}
use Rattle.office_commands.proofs.TrafficLaws.{whole_file, alone_is, whole_tuples}
use Rattle.tuples_traffic.specs.Traffic.{file_of, generated}
use Rattle.office_commands.proofs.traffic.rehearse_plan.Goals as goal

pub kept_alone-requires-clause-whole : goal.kept_alone-requires-clause-whole
kept_alone-requires-clause-whole g c =
    let same : c.bytes.result.now ≡ file_of c.args.plan.now = c.bytes.ensures ∙ c.in_ok-file.ensures in
    whole_file c.args.plan.now c.args.run.late c.bytes.result.now c.requires.plan same

pub returns-clause-kept : goal.returns-clause-kept
returns-clause-kept g c = λ right.
    let same : c.bytes.result.now ≡ file_of c.args.plan.now = c.bytes.ensures ∙ c.in_ok-file.ensures in
    IfOk-weaker c.kept_alone.result _ _
    (λ r h. h ∙ alone_is c.args.plan.now c.args.run.late c.bytes.result.now c.requires.plan same c.args.run.day)
    (c.kept_alone.ensures.kept right)

pub returns-clause-jobs : goal.returns-clause-jobs
returns-clause-jobs g c =
    let same : c.bytes.result.now ≡ file_of c.args.plan.now = c.bytes.ensures ∙ c.in_ok-file.ensures in
    subst (λ (ts : List Tuple). StartsDay c.args.run (backlog_of c.args.run DAY) ts (IsOk c.kept_alone.result)
    (g.C.Crew.jobs c.args.crew.now) (g.C.Crew.jobs c.kept_alone.new.crew))
    (whole_tuples c.args.plan.now c.args.run.late c.bytes.result.now c.requires.plan same) c.kept_alone.ensures.jobs

pub returns-in_err-file-clause-jobs : goal.returns-in_err-file-clause-jobs
returns-in_err-file-clause-jobs g c =
    let p = err_from_is_err_and c.from_residual.result c.from_residual.ensures.1 in
    day_none c.args.run (backlog_of c.args.run DAY) (generated c.args.plan.now) _ _ (not_ok c.from_residual.result p.0 p.1)
