use Rattle.std.proofs.Common.{refl, sym, ◌∙◌, subst}
use Rattle.ways_expressway.proofs.RunSteps.{on_refusal}
use Rattle.ways_expressway.specs.Results.{AreFirst}
use Rattle.day_import.specs.RoundRuns.{Stopped}
use Rattle.day_import.proofs.RoundLaws.{later_same, later_then, came_later, none_came, came_then, came_first}
use Rattle.day_import.proofs.work.finish_firsts.Goals as goal

pub finish_one-requires-clause-runs : goal.finish_one-requires-clause-runs
finish_one-requires-clause-runs g c =
    let (e, told, answered, s, h) = c.requires.runs in
    let (mid, later, order, runs) = c.loop-run.invariant.came e told answered s h in
    (e, told, answered, mid, runs)

pub loop-run-init : goal.loop-run-init
loop-run-init g c =
    record { width = refl; limits = refl; which = refl; came = λ e told answered s h. (s, later_same s, none_came s, h) }

pub loop-run-preserved : goal.loop-run-preserved
loop-run-preserved g c =
    let inv = c.loop-run.invariant in
    let v = c.in_ok-finish_one.ensures in
    record {
      width = v.width ∙ inv.width;
      limits = v.limits ∙ inv.limits;
      which = v.which ∙ inv.which;
      came = λ e told answered s h.
          let (mid, later, order, runs) = inv.came e told answered s h in
          let (now, came, all) = v.came e told answered mid runs in (
            now,
            later_then s mid now later
                (came_later c.loop-run.run.floor.inboxes.width 0 c.loop-run.run.floor.limits mid now
                runs.stands.sound came),
            came_then s mid now order (came_first c.loop-run.run.floor.inboxes.width mid now came),
            all,
          );
    }

pub returns-in_err-finish_one-clause-stopped : goal.returns-in_err-finish_one-clause-stopped
returns-in_err-finish_one-clause-stopped g c =
    let k = g.C.Crew in
    let inv = c.loop-run.invariant in
    on_refusal c.from_residual.result
    (λ e told answered s h day first.
    let (mid, later, order, runs) = inv.came e told answered s h in
    subst (λ n. Stopped k.out k.number k.holds k.gave k.jobs told n c.args.run.now.floor.limits day c.finish_one.new.run
    c.finish_one.new.crew) inv.width
    (subst (λ l. Stopped k.out k.number k.holds k.gave k.jobs told c.loop-run.run.floor.inboxes.width l day
    c.finish_one.new.run c.finish_one.new.crew) inv.limits
    (c.in_err-finish_one.ensures.stopped e told answered mid runs day
    (subst (λ ts. AreFirst ts day) (sym later.fed) first))))
