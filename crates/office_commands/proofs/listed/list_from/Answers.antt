use Rattle.std.proofs.Common.{◌≡◌, ◌∙◌, ◌+◌, ◌^◌, ◌<◌, ◌≤◌, List, length, take, refl, sym, ap, subst}
use Rattle.std.proofs.Common.{arith}
use Rattle.std.proofs.Common.{rules}
use Rattle.std.proofs.lemmas.List.{take_all, take-append-le, length-drop}
use Rattle.road_time.specs.declared.road.Notice.{Notice}
use Rattle.road_io.specs.Cutter.{ahead, line_of}
use Rattle.office_commands.specs.Differences.{differences}
use Rattle.office_commands.specs.declared.listing.Step.{Step}
use Rattle.office_commands.specs.Listings.{ListsOn, StepsTo, StepCounts}
use Rattle.office_commands.proofs.ListingLaws.{read_more, ready_more}
use Rattle.office_commands.proofs.listed.list_from.Goals as goal

pub loop-rest-init : goal.loop-rest-init
loop-rest-init g c = record {
  told = λ entries st. (entries, st, search rules);
  read = λ bytes s. read_more _ 1 _ bytes (omega arith) s;
  few = search rules;
  shorter = omega arith;
  line = omega arith;
  ready = ready_more _ _ 1 _ (omega arith) c.requires.ready;
  stands = refl;
  still = λ never. never;
}

pub next_step-requires-clause-line : goal.next_step-requires-clause-line
next_step-requires-clause-line g c =
    let inv = c.loop-rest.invariant in
    let short : length c.args.wanted.now < 2 ^ 63 = search rules in
    omega (arith, short, inv.line, inv.few, c.requires.few)

pub next_step-requires-clause-ready : goal.next_step-requires-clause-ready
next_step-requires-clause-ready g c =
    let inv = c.loop-rest.invariant in
    let short : length c.args.wanted.now < 2 ^ 63 = search rules in
    ready_more _ _ _ _ (omega (arith, short, inv.few, c.requires.few)) inv.ready

pub loop-rest-preserved-in-Ok-Passed : goal.loop-rest-preserved-in-Ok-Passed
loop-rest-preserved-in-Ok-Passed g c =
    let inv = c.loop-rest.invariant in
    let step = c.in-Ok-Passed.ensures in
    let room : length c.loop-rest.list.items < c.args.most = search rules in
    let rest = c.loop-rest.rest.now in
    let size = ap length c.behind_first-rest.ensures ∙ length-drop 1 rest in
    let now = c.next_step.new in
    let counts = subst (λ (s : Step). StepCounts s (length rest) (length c.loop-rest.list.items) (length now.list.items))
    c.in-Ok-Passed.field-0-is step.counts in
    record {
      told = λ entries st. subst (λ (ws : List Notice). ListsOn (differences c.args.wanted.now 1 entries) now.list.items
          ws now.spot.line now.spot.entry (line_of now.cutter) (ahead now.cutter (g.A.Source.left now.aside)))
          (sym c.behind_first-rest.ensures)
          (subst (λ (s : Step). StepsTo s (differences c.args.wanted.now 1 entries) now.list.items rest now.spot.line
          now.spot.entry (line_of now.cutter) (ahead now.cutter (g.A.Source.left now.aside)))
          c.in-Ok-Passed.field-0-is (step.exact (differences c.args.wanted.now 1 entries) (inv.told entries st)));
      read = λ bytes s. read_more _ _ _ bytes (omega (arith, size, counts.0, counts.1, inv.shorter))
          (c.next_step.ensures.read _ bytes (inv.read bytes s));
      few = omega (arith, room, counts.2);
      shorter = omega (arith, size, inv.shorter);
      line = omega (arith, step.line, inv.line, size, counts.0, counts.1);
      ready = ready_more _ _ _ _ (omega (arith, size, counts.0, counts.1, inv.shorter)) (step.ready _ inv.ready);
      stands = c.next_step.ensures.aside.still (λ e. let no : ⊥ = cc in no) ∙ inv.stands;
      still = λ never. c.next_step.ensures.still (inv.still never);
    }

pub loop-rest-preserved : goal.loop-rest-preserved
loop-rest-preserved g c =
    let inv = c.loop-rest.invariant in
    let step = c.in-Ok-Stayed.ensures in
    let room : length c.loop-rest.list.items < c.args.most = search rules in
    let rest = c.loop-rest.rest.now in
    let now = c.next_step.new in
    let counts = subst (λ (s : Step). StepCounts s (length rest) (length c.loop-rest.list.items) (length now.list.items))
    c.in-Ok-Stayed.field-0-is step.counts in
    record {
      told = λ entries st.
          subst (λ (s : Step). StepsTo s (differences c.args.wanted.now 1 entries) now.list.items rest now.spot.line
          now.spot.entry (line_of now.cutter) (ahead now.cutter (g.A.Source.left now.aside)))
          c.in-Ok-Stayed.field-0-is (step.exact (differences c.args.wanted.now 1 entries) (inv.told entries st));
      read = λ bytes s. read_more _ _ _ bytes (omega (arith, counts, inv.shorter))
          (c.next_step.ensures.read _ bytes (inv.read bytes s));
      few = omega (arith, room, counts);
      shorter = inv.shorter;
      line = omega (arith, step.line, inv.line, counts);
      ready = ready_more _ _ _ _ (omega (arith, counts, inv.shorter)) (step.ready _ inv.ready);
      stands = c.next_step.ensures.aside.still (λ e. let no : ⊥ = cc in no) ∙ inv.stands;
      still = λ never. c.next_step.ensures.still (inv.still never);
    }

pub returns-in-Ok-Ended-clause-exact : goal.returns-in-Ok-Ended-clause-exact
returns-in-Ok-Ended-clause-exact g c = λ entries st.
    let inv = c.loop-rest.invariant in
    let room : length c.loop-rest.list.items < c.args.most = search rules in
    let all = differences c.args.wanted.now 1 entries in
    let now = c.next_step.new in
    let rest = c.loop-rest.rest.now in
    let e : all ≡ now.list.items = subst (λ (s : Step). StepsTo s all now.list.items rest now.spot.line now.spot.entry
    (line_of now.cutter) (ahead now.cutter (g.A.Source.left now.aside))) c.in-Ok-Ended.field-0-is
    (c.in-Ok-Ended.ensures.exact all (inv.told entries st)) in
    let counts : length now.list.items ≤ length c.loop-rest.list.items + 1 = subst (λ (s : Step). StepCounts s
    (length rest) (length c.loop-rest.list.items) (length now.list.items)) c.in-Ok-Ended.field-0-is
    c.in-Ok-Ended.ensures.counts in
    sym e ∙ sym (take_all c.args.most all (omega (arith, ap length e, counts, room)))

pub returns-in-Ok-Ended-clause-read : goal.returns-in-Ok-Ended-clause-read
returns-in-Ok-Ended-clause-read g c = λ bytes s.
    let inv = c.loop-rest.invariant in
    let room : length c.loop-rest.list.items < c.args.most = search rules in
    read_more _ _ _ bytes (omega (arith, room)) (c.next_step.ensures.read _ bytes (inv.read bytes s))

pub returns-in-Err-clause-read : goal.returns-in-Err-clause-read
returns-in-Err-clause-read g c = λ bytes s.
    let inv = c.loop-rest.invariant in
    let room : length c.loop-rest.list.items < c.args.most = search rules in
    read_more _ _ _ bytes (omega (arith, room)) (c.next_step.ensures.read _ bytes (inv.read bytes s))

pub returns-clause-exact : goal.returns-clause-exact
returns-clause-exact g c = λ entries st.
    let inv = c.loop-rest.invariant in
    let full : c.args.most ≤ length c.loop-rest.list.items = search rules in
    let at = inv.told entries st in
    sym (ap (take c.args.most) at.2 ∙ take-append-le c.args.most c.loop-rest.list.items _ full
    ∙ take_all c.args.most c.loop-rest.list.items inv.few)

pub returns-clause-read : goal.returns-clause-read
returns-clause-read g c = λ bytes s.
    read_more _ _ _ bytes (omega (arith, c.loop-rest.invariant.few)) (c.loop-rest.invariant.read bytes s)
