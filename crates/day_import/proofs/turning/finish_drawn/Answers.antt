use Rattle.std.specs.Prelude.{Some, slice_get}
use Rattle.std.proofs.Common.{ℕ, suc, List, [], ◌∷◌, ◌≡◌, ◌<◌, ◌≤◌, ◌+◌, ◌-◌, ◌∙◌, length, refl, sym, ap, arith}
use Rattle.std.proofs.Common.{rules, subst}
use Rattle.road_time.specs.Tolls.{StretchTold}
use Rattle.day_plan.specs.Draws.{drawn, after_draws}
use Rattle.day_plan.proofs.DrawLaws.{none_drawn, one_drawn}
use Rattle.ways_expressway.proofs.RunSteps.{on_refusal}
use Rattle.ways_expressway.specs.Results.{AreFirst}
use Rattle.day_floor.specs.Shares.{State}
use Rattle.day_floor.specs.Steps.{after_back}
use Rattle.day_import.specs.RoundRuns.{Stopped, ComesBack}
use Rattle.day_import.specs.Turns.{IsMoved}
use Rattle.day_import.proofs.FinishRoundLaws.{outs_count}
use Rattle.day_import.proofs.TurnLaws.{moved_same, moved_then, came_moved}
use Rattle.day_import.proofs.turning.finish_drawn.Goals as goal

none_more : (n : ℕ) → n + 0 ≡ n
none_more n = omega arith

pub loop-rng-init : goal.loop-rng-init
loop-rng-init g c =
    let n = length c.args.run.now.tickets.items in
    let held : c.len-held.result ≡ n = search rules in
    let v = c.draw_place-more.ensures in
    let one : 1 + (c.len-held.result - n) ≡ 1 = omega (arith, held) in
    record {
      width = refl;
      limits = refl;
      which = refl;
      held = held;
      below = subst (λ m. m < c.len-held.result) v.drawn.0 v.below;
      left = (let b = v.below in let e = v.drawn.0 in omega (arith, b, e));
      low = (let b = v.below in omega (arith, b, held));
      drawn = v.drawn.1
          ∙ (ap (λ r. (drawn c.len-held.result r).1) (sym (none_drawn c.args.rng.now))
          ∙ (one_drawn c.len-held.result 0 c.args.rng.now ∙ ap (λ m. after_draws m c.args.rng.now) (sym one)));
      fewer = omega arith;
      came = λ e told answered s h. (
        s,
        0,
        moved_same c.args.run.now.floor.inboxes.width s,
        none_more (length c.args.run.now.tickets.items),
        h,
        ([], refl, refl, tt),
      );
    }

pub finish_one-requires-clause-runs : goal.finish_one-requires-clause-runs
finish_one-requires-clause-runs g c =
    let (e, told, answered, s, h) = c.requires.runs in
    let (now, n, moved, count, runs, backs) = c.loop-rng.invariant.came e told answered s h in
    (e, told, answered, now, runs)

pub loop-rng-preserved : goal.loop-rng-preserved
loop-rng-preserved g c =
    let inv = c.loop-rng.invariant in
    let v = c.in_ok-finish_one.ensures in
    let w = c.args.run.now.floor.inboxes.width in
    let one = v.fewer in
    let few = inv.fewer in
    let all = inv.held in
    let k = g.C.Crew in
    let all_held = inv.held in
    let going : (c.len-held.result - 1 - c.draw_place-more.result) < length c.loop-rng.run.tickets.items =
    search rules in
    let further : suc (1 + (c.len-held.result - length c.loop-rng.run.tickets.items))
    ≡ 1 + (c.len-held.result - length c.finish_one.new.run.tickets.items) = omega (arith, one, few, all) in
    record {
      width = v.width ∙ inv.width;
      limits = v.limits ∙ inv.limits;
      which = v.which ∙ inv.which;
      held = inv.held;
      below = inv.below;
      left = inv.left;
      low = (let t = going in omega (arith, one, t));
      drawn = c.draw_place-place.ensures.drawn.1 ∙ (ap (λ r. (drawn c.len-in-loop-rng.result r).1) inv.drawn
          ∙ (one_drawn c.len-in-loop-rng.result (1 + (c.len-held.result - length c.loop-rng.run.tickets.items))
          c.args.rng.now ∙ ap (λ m. after_draws m c.args.rng.now) further));
      fewer = omega (arith, one, few);
      came = λ e told answered s h.
          let (mid, n, moved, count, runs, backs) = inv.came e told answered s h in
          let (now, came, all) = v.came e told answered mid runs in
          let before = c.args.rng.now in
          let first = backs.0 in
          let long = backs.2 in
          let outs : length mid.outs ≡ length c.loop-rng.run.tickets.items =
          outs_count k.out k.number k.holds k.gave k.exact k.jobs k.answers e told answered c.loop-rng.run
          c.loop-rng.crew mid runs in
          let still : c.len-in-loop-rng.result ≡ length c.loop-rng.run.tickets.items = search rules in
          let draws : 1 + (c.len-held.result - length c.loop-rng.run.tickets.items) ≡ 1 + length first =
          omega (arith, all_held, count, long) in
          let place : c.draw_place-place.result ≡ (drawn (length mid.outs) (after_draws (1 + length first) before)).0 =
          c.draw_place-place.ensures.drawn.0
          ∙ (ap (λ r. (drawn c.len-in-loop-rng.result r).0) (inv.drawn ∙ ap (λ m. after_draws m before) draws)
          ∙ ap (λ m. (drawn m (after_draws (1 + length first) before)).0) (still ∙ sym outs)) in
          let from : slice_get mid.outs (drawn (length mid.outs) (after_draws (1 + length first) before)).0
          ≡ Some came.worker = subst (λ p. slice_get mid.outs p ≡ Some came.worker) place came.placed in
          let b : ℕ × List (ℕ × StretchTold) = (came.worker, came.found) in (
            now,
            n + 1,
            moved_then w n 1 s mid now moved
                (subst (λ k. IsMoved k 1 mid now) inv.width
                (came_moved c.loop-rng.run.floor.inboxes.width c.draw_place-place.result c.loop-rng.run.floor.limits mid
                now runs.stands.sound came)),
            omega (arith, one, count),
            all,
            (
              b ∷ first,
              came.is ∙ ap (λ m. after_back m came.worker came.found) backs.1,
              omega (arith, long),
              (
                subst (λ (m : State). ComesBack (drawn (length m.outs) (after_draws (1 + length first) before)).0 m b)
                    backs.1 (record { placed = from; found = came.can.shape }),
                backs.3,
              ),
            ),
          );
    }

pub returns-in_err-finish_one-clause-stopped : goal.returns-in_err-finish_one-clause-stopped
returns-in_err-finish_one-clause-stopped g c =
    let k = g.C.Crew in
    let inv = c.loop-rng.invariant in
    on_refusal c.from_residual.result
    (λ e told answered s h day first.
    let (mid, n, moved, count, runs, backs) = inv.came e told answered s h in
    subst (λ n. Stopped k.out k.number k.holds k.gave k.jobs told n c.args.run.now.floor.limits day c.finish_one.new.run
    c.finish_one.new.crew) inv.width
    (subst (λ l. Stopped k.out k.number k.holds k.gave k.jobs told c.loop-rng.run.floor.inboxes.width l day
    c.finish_one.new.run c.finish_one.new.crew) inv.limits
    (c.in_err-finish_one.ensures.stopped e told answered mid runs day
    (subst (λ ts. AreFirst ts day) (sym moved.fed) first))))

pub returns-clause-drawn : goal.returns-clause-drawn
returns-clause-drawn g c some =
    let inv = c.loop-rng.invariant in
    let n = length c.args.run.now.tickets.items in
    let done : length c.loop-rng.run.tickets.items ≤ (c.len-held.result - 1 - c.draw_place-more.result) =
    search rules in
    let low = inv.low in
    let left : (c.len-held.result - 1 - c.draw_place-more.result) + (1 + (drawn n c.args.rng.now).0) ≡ n =
    subst (λ m. (c.len-held.result - 1 - c.draw_place-more.result) + (1 + (drawn m c.args.rng.now).0) ≡ m) inv.held
    inv.left in
    let count : 1 + (c.len-held.result - length c.loop-rng.run.tickets.items) ≡ 2 + (drawn n c.args.rng.now).0 =
    (let h = inv.held in omega (arith, done, low, left, h)) in
    (omega (arith, done, low, left), inv.drawn ∙ ap (λ m. after_draws m c.args.rng.now) count)

pub returns-then-held-eq0-clause-came : goal.returns-then-held-eq0-clause-came
returns-then-held-eq0-clause-came g c e told answered s h = (
  s,
  0,
  moved_same c.args.run.now.floor.inboxes.width s,
  none_more (length c.args.run.now.tickets.items),
  h,
  ([], refl, refl, tt),
)

pub returns-clause-came : goal.returns-clause-came
returns-clause-came g c = c.loop-rng.invariant.came
