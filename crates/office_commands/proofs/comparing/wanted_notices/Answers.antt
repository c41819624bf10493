use Rattle.std.proofs.Common.{◌∙◌, ap, IsOk, subst, sym, refl}
use Rattle.std.proofs.lemmas.Result.{err_from_is_err_and}
use Rattle.road_time.specs.Day.{notices}
use Rattle.road_time.specs.Rates.{Tariffs}
use Rattle.road_time.specs.History.{paid}
use Rattle.office_commands.proofs.StartLaws.{bulk_none, bulk_weaker, not_ok}
use Rattle.office_commands.proofs.comparing.wanted_notices.Goals as goal

pub returns-in-Ok-clause-exact : goal.returns-in-Ok-clause-exact
returns-in-Ok-clause-exact g c = λ right o kept rates.
    let tuples = c.args.tuples.now in
    let number = c.args.asked.day in
    c.in-Ok.ensures.exact right
    ∙ ap (λ rows. notices tuples c.args.tariffs.now number (paid rows)) c.as_slice.ensures.value
    ∙ c.in_ok-history.ensures.told o kept c.args.tariffs.now
    ∙ ap (λ (tariffs : Tariffs). notices tuples tariffs number (paid o.rows)) rates

pub returns-in-Ok-clause-jobs : goal.returns-in-Ok-clause-jobs
returns-in-Ok-clause-jobs g c =
    let ok : IsOk c.recompute.result = subst IsOk (sym c.in-Ok.is) refl in
    bulk_weaker c.args.asked.how c.args.tuples.now (IsOk c.recompute.result) _ _ _ (λ well. ok) c.recompute.ensures.jobs

pub returns-in_err-history-clause-jobs : goal.returns-in_err-history-clause-jobs
returns-in_err-history-clause-jobs g c =
    let p = err_from_is_err_and c.from_residual.result c.from_residual.ensures.1 in
    bulk_none c.args.asked.how c.args.tuples.now _ _ (not_ok c.from_residual.result p.0 p.1)
