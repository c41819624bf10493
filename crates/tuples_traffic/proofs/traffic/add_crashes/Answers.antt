use Rattle.std.proofs.Common.{◌≡◌, ◌++◌, ap, sym, ◌∙◌}
use Rattle.rand_pcg.specs.Lcg.{Lcg}
use Rattle.tuples_traffic.specs.declared.crash.Crash.{Crash}
use Rattle.tuples_traffic.specs.Plans.{end_of}
use Rattle.tuples_traffic.specs.Crashes.{drawn_crash, crash_tuples}
use Rattle.tuples_traffic.specs.Traffic.{crash_of}
use Rattle.tuples_traffic.proofs.StepLaws.{no_crash, none_added, crash_next, crashes_more, added}
use Rattle.tuples_traffic.proofs.traffic.add_crashes.Goals as goal

pub loop-number-init : goal.loop-number-init
loop-number-init c = record {
  tuples = none_added c.args.tuples.now.items
      ∙ ap (λ ts. c.args.tuples.now.items ++ ts) (sym (no_crash c.args.plan.now));
  drawn = c.requires.first;
}

pub loop-number-preserved : goal.loop-number-preserved
loop-number-preserved c =
    let plan = c.args.plan.now in
    let n = c.loop-number.number in
    let now = c.loop-number.tuples.items in
    let next = ap (drawn_crash plan) c.loop-number.invariant.drawn ∙ crash_next plan n in
    let crash : c.draw-crash.result ≡ crash_of plan n = c.draw-crash.ensures.drawn.0
    ∙ ap (λ (p : Crash × Lcg). p.0) next in
    record {
      tuples = added now c.args.tuples.now.items _ _ _ c.loop-number.invariant.tuples (crashes_more plan n) _
          (c.in_ok-add.ensures ∙ ap (λ (r : Crash). now ++ crash_tuples (end_of plan) n r) crash);
      drawn = c.draw-crash.ensures.drawn.1 ∙ ap (λ (p : Crash × Lcg). p.1) next;
    }
