use Rattle.std.proofs.Common.{◌≡◌, ◌∙◌, ◌≤◌, ◌<◌, [], length, rules, refl, subst}
use Rattle.std.proofs.Common.{arith}
use Rattle.road_io.specs.Cutter.{ahead, line_of}
use Rattle.office_commands.specs.declared.listing.Step.{Step}
use Rattle.office_commands.specs.Listings.{StepsTo, StepCounts}
use Rattle.office_commands.proofs.ListingLaws.{read_more, ready_more}
use Rattle.office_commands.proofs.SecondLaws.{full_taken, whole_taken}
use Rattle.office_commands.proofs.any_order.lines_over.Goals as goal

pub loop-spot-init : goal.loop-spot-init
loop-spot-init g c = record {
  told = λ all h. h;
  read = λ bytes s. read_more _ _ _ bytes (omega arith) s;
  few = c.requires.few;
  more = omega arith;
  line = omega arith;
  ready = ready_more _ _ _ _ (omega arith) c.requires.ready;
  stands = refl;
  still = λ never. never;
}

pub next_step-requires-clause-line : goal.next_step-requires-clause-line
next_step-requires-clause-line g c =
    let inv = c.loop-spot.invariant in
    let room : length c.loop-spot.list.items < c.args.most = search rules in
    omega (arith, room, inv.line, inv.more, c.requires.line)

pub next_step-requires-clause-ready : goal.next_step-requires-clause-ready
next_step-requires-clause-ready g c =
    let inv = c.loop-spot.invariant in
    let room : length c.loop-spot.list.items < c.args.most = search rules in
    ready_more _ _ _ _ (omega (arith, room, inv.more, c.requires.line)) inv.ready

pub loop-spot-preserved : goal.loop-spot-preserved
loop-spot-preserved g c =
    let inv = c.loop-spot.invariant in
    let step = c.in-Ok-Stayed.ensures in
    let room : length c.loop-spot.list.items < c.args.most = search rules in
    let now = c.next_step.new in
    let counts = subst (λ (s : Step). StepCounts s 0 (length c.loop-spot.list.items) (length now.list.items))
    c.in-Ok-Stayed.field-0-is step.counts in
    record {
      told = λ all h. subst (λ (s : Step). StepsTo s all now.list.items [] now.spot.line now.spot.entry
          (line_of now.cutter) (ahead now.cutter (g.A.Source.left now.aside))) c.in-Ok-Stayed.field-0-is
          (step.exact all (inv.told all h));
      read = λ bytes s. read_more _ _ _ bytes (omega (arith, counts, inv.more))
          (c.next_step.ensures.read _ bytes (inv.read bytes s));
      few = omega (arith, room, counts);
      more = omega (arith, inv.more, counts);
      line = omega (arith, step.line, inv.line, counts);
      ready = ready_more _ _ _ _ (omega (arith, counts, inv.more)) (step.ready _ inv.ready);
      stands = c.next_step.ensures.aside.still (λ e. let no : ⊥ = cc in no) ∙ inv.stands;
      still = λ never. c.next_step.ensures.still (inv.still never);
    }

pub returns-in-Ok-Ended-clause-exact : goal.returns-in-Ok-Ended-clause-exact
returns-in-Ok-Ended-clause-exact g c = λ all h.
    let inv = c.loop-spot.invariant in
    let room : length c.loop-spot.list.items < c.args.most = search rules in
    let now = c.next_step.new in
    let counts = subst (λ (s : Step). StepCounts s 0 (length c.loop-spot.list.items) (length now.list.items))
    c.in-Ok-Ended.field-0-is c.in-Ok-Ended.ensures.counts in
    let whole : all ≡ now.list.items = subst (λ (s : Step). StepsTo s all now.list.items [] now.spot.line now.spot.entry
    (line_of now.cutter) (ahead now.cutter (g.A.Source.left now.aside))) c.in-Ok-Ended.field-0-is
    (c.in-Ok-Ended.ensures.exact all (inv.told all h)) in
    whole_taken c.args.most all now.list.items whole (omega (arith, room, counts))

pub returns-in-Ok-Passed-clause-exact : goal.returns-in-Ok-Passed-clause-exact
returns-in-Ok-Passed-clause-exact g c = λ all h.
    let now = c.next_step.new in
    let counts = subst (λ (s : Step). StepCounts s 0 (length c.loop-spot.list.items) (length now.list.items))
    c.in-Ok-Passed.field-0-is c.in-Ok-Passed.ensures.counts in
    let no : ⊥ = omega (arith, counts.0) in
    absurd no

pub returns-clause-exact : goal.returns-clause-exact
returns-clause-exact g c = λ all h.
    let inv = c.loop-spot.invariant in
    let past : c.args.most ≤ length c.loop-spot.list.items = search rules in
    let full : length c.loop-spot.list.items ≡ c.args.most = omega (arith, inv.few, past) in
    let at = inv.told all h in
    full_taken c.args.most all c.loop-spot.list.items _ at.2 full
