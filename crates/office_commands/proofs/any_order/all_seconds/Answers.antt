use Rattle.std.proofs.Common.{◌≡◌, ◌∙◌, ◌<◌, ◌^◌, ◌∷◌, ℕ, List, length, drop, rules, refl, sym, ap}
use Rattle.std.proofs.Common.{subst, arith}
use Rattle.std.proofs.lemmas.List.{length-drop, length-take-le}
use Rattle.road_time.specs.declared.road.Notice.{Notice}
use Rattle.road_io.specs.Cutter.{ahead, line_of}
use Rattle.ways_audit.specs.Seconds.{seconds}
use Rattle.office_commands.specs.declared.second.Reach.{Reach}
use Rattle.office_commands.specs.AnyOrder.{differences_by_second}
use Rattle.office_commands.specs.Turns.{ListsSeconds, ReachTo}
use Rattle.office_commands.proofs.ListingLaws.{no_notices, read_more}
use Rattle.office_commands.proofs.SecondLaws.{first_of_seconds}
use Rattle.office_commands.proofs.any_order.all_seconds.Goals as goal

pub loop-rest-init : goal.loop-rest-init
loop-rest-init g c = record {
  told = λ all h. h;
  read = λ bytes s. read_more _ 1 _ bytes (omega (arith, c.requires.line)) s;
  few = omega (arith, ap length c.requires.empty);
  shorter = omega arith;
  line = omega (arith, c.requires.line);
  ready = c.requires.ready;
  stands = refl;
  still = λ never. never;
}

pub one_second-requires-clause-line : goal.one_second-requires-clause-line
one_second-requires-clause-line g c =
    let inv = c.loop-rest.invariant in
    let short : length c.args.wanted.now < 2 ^ 63 = search rules in
    let size = ap length c.first_some-run.ensures ∙ length-take-le c.first_second-some.result c.loop-rest.rest.now
    c.first_second-some.ensures.few in
    omega (arith, short, size, c.first_second-some.ensures.few, inv.line, inv.few, inv.shorter, c.requires.few)

pub one_second-requires-clause-ready : goal.one_second-requires-clause-ready
one_second-requires-clause-ready g c = c.loop-rest.invariant.ready

pub one_second-requires-clause-few : goal.one_second-requires-clause-few
one_second-requires-clause-few g c = c.loop-rest.invariant.few

pub loop-rest-preserved : goal.loop-rest-preserved
loop-rest-preserved g c =
    let inv = c.loop-rest.invariant in
    let step = c.in-Ok-Onward.ensures in
    let now = c.one_second.new in
    let rest = c.loop-rest.rest.now in
    let some = c.first_second-some.result in
    let run = c.first_some-run.result.now in
    let line = line_of c.loop-rest.cutter in
    let after = ahead c.loop-rest.cutter (g.A.Source.left c.loop-rest.aside) in
    let before = c.loop-rest.spot in
    let behind = λ (m : ℕ) (ks : List (List ℕ)). differences_by_second (seconds (drop some rest)) m ks in
    let cut : seconds rest ≡ run ∷ seconds (drop some rest) =
    c.first_second-some.ensures.cut ∙ ap (λ (r : List Notice). r ∷ seconds (drop some rest))
    (sym c.first_some-run.ensures) in
    let size = ap length c.first_some-run.ensures ∙ length-take-le some rest c.first_second-some.ensures.few in
    let left = ap length c.behind_some-rest.ensures ∙ length-drop some rest in
    record {
      told = λ all h. subst (λ (ws : List Notice). ListsSeconds all now.list.items ws now.spot.line now.spot.entry
          (line_of now.cutter) (ahead now.cutter (g.A.Source.left now.aside))) (sym c.behind_some-rest.ensures)
          (subst (λ (r : Reach). ReachTo r c.args.most all now.list.items behind now.spot.line now.spot.entry
          (line_of now.cutter) (ahead now.cutter (g.A.Source.left now.aside))) c.in-Ok-Onward.field-0-is
          (step.exact all behind (first_of_seconds all c.loop-rest.list.items rest run (drop some rest) before.line
          before.entry line after cut (inv.told all h))));
      read = λ bytes s. step.read bytes (inv.read bytes s);
      few = step.few.1;
      shorter = omega (arith, left, inv.shorter);
      line = omega (arith, size, left, step.line, inv.line, c.first_second-some.ensures.few);
      ready = step.ready;
      stands = c.one_second.ensures.aside.still (λ e. let no : ⊥ = cc in no) ∙ inv.stands;
      still = λ never. c.one_second.ensures.still (inv.still never);
    }

pub returns-in-Ok-Whole-clause-exact : goal.returns-in-Ok-Whole-clause-exact
returns-in-Ok-Whole-clause-exact g c = λ all h.
    let inv = c.loop-rest.invariant in
    let now = c.one_second.new in
    let rest = c.loop-rest.rest.now in
    let some = c.first_second-some.result in
    let run = c.first_some-run.result.now in
    let line = line_of c.loop-rest.cutter in
    let after = ahead c.loop-rest.cutter (g.A.Source.left c.loop-rest.aside) in
    let before = c.loop-rest.spot in
    let behind = λ (m : ℕ) (ks : List (List ℕ)). differences_by_second (seconds (drop some rest)) m ks in
    let cut : seconds rest ≡ run ∷ seconds (drop some rest) =
    c.first_second-some.ensures.cut ∙ ap (λ (r : List Notice). r ∷ seconds (drop some rest))
    (sym c.first_some-run.ensures) in
    subst (λ (r : Reach). ReachTo r c.args.most all now.list.items behind now.spot.line now.spot.entry
    (line_of now.cutter) (ahead now.cutter (g.A.Source.left now.aside))) c.in-Ok-Whole.field-0-is
    (c.in-Ok-Whole.ensures.exact all behind (first_of_seconds all c.loop-rest.list.items rest run (drop some rest)
    before.line before.entry line after cut (inv.told all h)))

pub returns-clause-exact : goal.returns-clause-exact
returns-clause-exact g c = λ all h.
    let now = c.loop-rest in
    let empty : length now.rest.now ≡ 0 = search rules in
    subst (λ (ws : List Notice). ListsSeconds all now.list.items ws now.spot.line now.spot.entry (line_of now.cutter)
    (ahead now.cutter (g.A.Source.left now.aside))) (no_notices now.rest.now empty) (now.invariant.told all h)
