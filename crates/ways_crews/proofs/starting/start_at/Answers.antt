use Rattle.std.proofs.Common.{arith, sym, ◌∙◌, refl}
use Rattle.ways_crews.proofs.Numbers.{some_free, first_at}
use Rattle.ways_crews.proofs.CrewSteps.{not_cell}
use Rattle.ways_crews.proofs.starting.start_at.Goals as goal

pub unreachable-requires : goal.unreachable-requires
unreachable-requires g c =
    let all = c.requires.all in let few = c.requires.room in
    some_free c.args.places.now (omega arith) (sym c.first_free.ensures ∙ c.in-None.is)

pub begin-place-requires-clause-free : goal.begin-place-requires-clause-free
begin-place-requires-clause-free g c =
    let at = first_at c.args.places.now c.in-Some.at (sym c.first_free.ensures ∙ c.in-Some.is) in
    c.requires.free.free c.in-Some.at (not_cell c.args.places.now c.in-Some.at at.1)

pub returns-clause-started : goal.returns-clause-started
returns-clause-started g c =
    let at = first_at c.args.places.now c.in-Some.at (sym c.first_free.ensures ∙ c.in-Some.is) in
    let within = at.0 in let all = c.requires.all in
    record {
      place = c.begin-place.result;
      put = record { small = omega arith; free = at.1; is = refl };
      begun = c.begin-place.ensures.begun;
      says = c.begin-place.ensures.listed;
    }
