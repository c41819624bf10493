use Rattle.std.proofs.Common.{◌≡◌, suc, ◌+◌, ◌≤◌, sym, ◌∙◌, arith, subst}
use Rattle.day_floor.specs.Sound.{SoundState, IsTrue}
use Rattle.day_floor.specs.Written.{settled_charges}
use Rattle.day_floor.specs.Floors.{StandsFor}
use Rattle.example_day.specs.Turns.{after_runs}
use Rattle.example_day.proofs.RunLaws.{answered}
use Rattle.example_day.proofs.turns.run_all.Goals as goal

pub loop-worker-preserved : goal.loop-worker-preserved
loop-worker-preserved c =
    let inv = c.loop-worker.invariant in
    let w = c.loop-worker.worker in
    let sv = c.requires.serves in
    let width = c.args.floor.now.inboxes.width in
    let one : suc w ≡ w + 1 = omega arith in
    record {
      width = c.in_ok-run_next.ensures.width ∙ inv.width;
      limits = c.in_ok-run_next.ensures.limits ∙ inv.limits;
      some = record {
        setting = sv.setting;
        state = after_runs sv.setting.tariffs sv.state (suc w);
        stands = c.in_ok-run_next.ensures.ran sv.setting (after_runs sv.setting.tariffs sv.state w)
            (inv.ran sv.setting sv.state sv.stands);
      };
      charged = λ g s st. subst (λ n. settled_charges (after_runs g.tariffs s n) ≡ settled_charges s) one
          (c.in_ok-run_next.ensures.charged g (after_runs g.tariffs s w) (inv.ran g s st) ∙ inv.charged g s st);
      right = λ g s st are.
          subst (λ n. IsTrue g.tariffs width (after_runs g.tariffs s n)) one
          (subst (λ k. IsTrue g.tariffs k (after_runs g.tariffs s (suc w))) inv.width
          (c.in_ok-run_next.ensures.right g (after_runs g.tariffs s w) (inv.ran g s st)
          (subst (λ k. IsTrue g.tariffs k (after_runs g.tariffs s w)) (sym inv.width) (inv.right g s st are))));
      ran = λ g s st.
          subst (λ n. StandsFor g c.run_next.new.floor (after_runs g.tariffs s n)) one
          (c.in_ok-run_next.ensures.ran g (after_runs g.tariffs s w) (inv.ran g s st));
    }

pub returns-clause-ran : goal.returns-clause-ran
returns-clause-ran c = λ g s st.
    let all : c.loop-worker.worker ≡ c.args.width =
    omega (arith, c.loop-worker.auto.worker-end, c.loop-worker-test.false) in
    subst (λ n. StandsFor g c.loop-worker.floor (after_runs g.tariffs s n)) all (c.loop-worker.invariant.ran g s st)

pub returns-clause-answered : goal.returns-clause-answered
returns-clause-answered c = λ g s st home are.
    let all : c.loop-worker.worker ≡ c.args.width =
    omega (arith, c.loop-worker.auto.worker-end, c.loop-worker-test.false) in
    let inv = c.loop-worker.invariant in
    let width = c.requires.width in
    let now = subst (λ n. StandsFor g c.loop-worker.floor (after_runs g.tariffs s n)) all (inv.ran g s st) in
    let right = inv.right g s st (subst (λ k. IsTrue g.tariffs k s) width are) in
    answered g.tariffs c.args.width c.loop-worker.floor.limits s (subst (λ k. 1 ≤ k) (sym width) st.terms.some) home
    (subst (λ k. SoundState k c.loop-worker.floor.limits (after_runs g.tariffs s c.args.width))
    (inv.width ∙ sym width) now.sound)
    (subst (λ k. IsTrue g.tariffs k (after_runs g.tariffs s c.args.width)) (sym width)
    (subst (λ n. IsTrue g.tariffs c.args.floor.now.inboxes.width (after_runs g.tariffs s n)) all right))

pub returns-clause-charged : goal.returns-clause-charged
returns-clause-charged c = λ g s st.
    let all : c.loop-worker.worker ≡ c.args.width =
    omega (arith, c.loop-worker.auto.worker-end, c.loop-worker-test.false) in
    subst (λ n. settled_charges (after_runs g.tariffs s n) ≡ settled_charges s) all
    (c.loop-worker.invariant.charged g s st)
