use Rattle.std.proofs.Common.{◌≡◌, ◌∙◌, ◌≤◌, ◌<◌, ◌++◌, ℕ, length, rules, refl, sym, ap, subst}
use Rattle.std.proofs.Common.{arith}
use Rattle.std.proofs.lemmas.Result.{IfOk-weaker}
use Rattle.road_time.specs.declared.road.Notice.{Notice}
use Rattle.road_io.specs.Cutter.{ahead, line_of}
use Rattle.ways_audit.specs.Seconds.{still, count_in}
use Rattle.office_commands.specs.declared.entry_text.EntryText.{EntryText}
use Rattle.office_commands.specs.declared.turns.Turn.{Turn}
use Rattle.office_commands.specs.AnyOrder.{missing_at}
use Rattle.office_commands.specs.Turns.{ListsSecond, TurnsTo, TurnCounts, found_at}
use Rattle.office_commands.proofs.SecondLaws.{full_taken, whole_taken, reach_by}
use Rattle.office_commands.proofs.second.one_second.Goals as goal

pub loop-left-init : goal.loop-left-init
loop-left-init g c =
    let spot = c.args.spot.now in
    let line = line_of c.args.cutter.now in
    let after = ahead c.args.cutter.now (g.A.Source.left c.args.aside.now) in
    let run = c.args.run.now in
    let all_come : count_in run ≡ still c.in-Ok.coming = λ i x. sym (c.in-Ok.ensures x) i in
    record {
      told = λ all behind h.
          subst (λ (coming : Notice → ℕ). ListsSecond all c.args.list.now.items run behind (length run) coming spot.line
          spot.entry line after) all_come h;
      read = λ bytes s. s;
      few = c.requires.few;
      more = omega arith;
      fewer = omega arith;
      line = omega arith;
      ready = c.requires.ready;
      stands = refl;
      still = λ never. never;
    }

pub next_turn-requires-clause-line : goal.next_turn-requires-clause-line
next_turn-requires-clause-line g c =
    let inv = c.loop-left.invariant in
    let room : length c.loop-left.list.items < c.args.most = search rules in
    omega (arith, room, inv.line, inv.more, inv.few, c.requires.line)

pub next_turn-requires-clause-ready : goal.next_turn-requires-clause-ready
next_turn-requires-clause-ready g c = c.loop-left.invariant.ready

pub loop-left-preserved-in-Ok-Came : goal.loop-left-preserved-in-Ok-Came
loop-left-preserved-in-Ok-Came g c =
    let inv = c.loop-left.invariant in
    let step = c.in-Ok-Came.ensures in
    let now = c.next_turn.new in
    let some : 1 ≤ c.loop-left.left = search rules in
    let counts = subst (λ (t : Turn). TurnCounts t c.loop-left.spot.line now.spot.line
    (length c.loop-left.list.items) (length now.list.items)) c.in-Ok-Came.field-0-is step.counts in
    record {
      told = λ all behind h. subst (λ (t : Turn). TurnsTo t all now.list.items c.args.run.now behind c.loop-left.left
          (still now.coming) now.spot.line now.spot.entry (line_of now.cutter)
          (ahead now.cutter (g.A.Source.left now.aside))) c.in-Ok-Came.field-0-is
          (step.exact all behind c.loop-left.left some (inv.told all behind h));
      read = λ bytes s. step.read bytes (inv.read bytes s);
      few = omega (arith, inv.few, counts.1);
      more = omega (arith, inv.more, counts.1);
      fewer = omega (arith, inv.fewer);
      line = omega (arith, some, inv.line, counts.0, counts.1);
      ready = step.ready;
      stands = c.next_turn.ensures.aside.still (λ e. let no : ⊥ = cc in no) ∙ inv.stands;
      still = λ never. c.next_turn.ensures.still (inv.still never);
    }

pub loop-left-preserved : goal.loop-left-preserved
loop-left-preserved g c =
    let inv = c.loop-left.invariant in
    let step = c.in-Ok-Stayed.ensures in
    let now = c.next_turn.new in
    let some : 1 ≤ c.loop-left.left = search rules in
    let room : length c.loop-left.list.items < c.args.most = search rules in
    let counts = subst (λ (t : Turn). TurnCounts t c.loop-left.spot.line now.spot.line
    (length c.loop-left.list.items) (length now.list.items)) c.in-Ok-Stayed.field-0-is step.counts in
    record {
      told = λ all behind h. subst (λ (t : Turn). TurnsTo t all now.list.items c.args.run.now behind c.loop-left.left
          (still now.coming) now.spot.line now.spot.entry (line_of now.cutter)
          (ahead now.cutter (g.A.Source.left now.aside))) c.in-Ok-Stayed.field-0-is
          (step.exact all behind c.loop-left.left some (inv.told all behind h));
      read = λ bytes s. step.read bytes (inv.read bytes s);
      few = omega (arith, room, counts.1);
      more = omega (arith, inv.more, counts.1);
      fewer = inv.fewer;
      line = omega (arith, inv.line, counts.0, counts.1);
      ready = step.ready;
      stands = c.next_turn.ensures.aside.still (λ e. let no : ⊥ = cc in no) ∙ inv.stands;
      still = λ never. c.next_turn.ensures.still (inv.still never);
    }

pub returns-in-Ok-Behind-clause-exact : goal.returns-in-Ok-Behind-clause-exact
returns-in-Ok-Behind-clause-exact g c = λ all behind h.
    let inv = c.loop-left.invariant in
    let now = c.next_turn.new in
    let some : 1 ≤ c.loop-left.left = search rules in
    let run = c.args.run.now in
    let line = line_of now.cutter in
    let after = ahead now.cutter (g.A.Source.left now.aside) in
    let listed = now.list.items in
    let at = subst (λ (t : Turn). TurnsTo t all listed run behind c.loop-left.left (still now.coming) now.spot.line
    now.spot.entry line after) c.in-Ok-Behind.field-0-is
    (c.in-Ok-Behind.ensures.exact all behind c.loop-left.left some (inv.told all behind h)) in
    let named : c.found_at-found.result ≡ found_at now.spot.entry line = search rules in
    let told : all ≡ listed ++ (missing_at now.spot.line c.found_at-found.result (still now.coming) run ++ behind
    now.spot.line at.0) =
    at.2 ∙ ap (λ (t : EntryText). listed ++ (missing_at now.spot.line t (still now.coming) run ++ behind now.spot.line
    at.0)) (sym named) in
    IfOk-weaker c.missing.result _ _ (λ r k. reach_by r c.args.most all c.missing.new.list.items behind now.spot.line
    now.spot.entry line after at.0 at.1 k) (c.missing.ensures.exact all (behind now.spot.line at.0) told)

pub returns-in-Ok-Ended-clause-exact : goal.returns-in-Ok-Ended-clause-exact
returns-in-Ok-Ended-clause-exact g c = λ all behind h.
    let inv = c.loop-left.invariant in
    let now = c.next_turn.new in
    let some : 1 ≤ c.loop-left.left = search rules in
    let room : length c.loop-left.list.items < c.args.most = search rules in
    let counts = subst (λ (t : Turn). TurnCounts t c.loop-left.spot.line now.spot.line
    (length c.loop-left.list.items) (length now.list.items)) c.in-Ok-Ended.field-0-is c.in-Ok-Ended.ensures.counts in
    let whole : all ≡ now.list.items = subst (λ (t : Turn). TurnsTo t all now.list.items c.args.run.now behind
    c.loop-left.left (still now.coming) now.spot.line now.spot.entry (line_of now.cutter)
    (ahead now.cutter (g.A.Source.left now.aside))) c.in-Ok-Ended.field-0-is
    (c.in-Ok-Ended.ensures.exact all behind c.loop-left.left some (inv.told all behind h)) in
    whole_taken c.args.most all now.list.items whole (omega (arith, room, counts.2))

pub returns-then-as_slice-most-clause-exact : goal.returns-then-as_slice-most-clause-exact
returns-then-as_slice-most-clause-exact g c = λ all behind h.
    let at = c.loop-left.invariant.told all behind h in
    let full : length c.loop-left.list.items ≡ c.args.most = search rules in
    full_taken c.args.most all c.loop-left.list.items _ at.2 full

pub returns-clause-exact : goal.returns-clause-exact
returns-clause-exact g c = λ all behind h.
    let now = c.loop-left in
    let none : now.left ≡ 0 = search rules in
    subst (λ k. ListsSecond all now.list.items c.args.run.now behind k (still now.coming) now.spot.line now.spot.entry
    (line_of now.cutter) (ahead now.cutter (g.A.Source.left now.aside))) none (now.invariant.told all behind h)
