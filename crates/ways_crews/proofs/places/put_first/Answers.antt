use Rattle.std.proofs.Common.{sym, arith, ◌∙◌, refl}
use Rattle.ways_crews.proofs.Numbers.{some_free, first_at}
use Rattle.ways_crews.proofs.places.put_first.Goals as goal

pub unreachable-requires : goal.unreachable-requires
unreachable-requires g c =
    let all = c.requires.all in let few = c.requires.room in
    some_free c.args.items.now (omega arith) (sym c.first_free.ensures ∙ c.in-None.is)

pub returns : goal.returns
returns g c =
    let all = c.requires.all in
    let at = first_at c.args.items.now c.in-Some.at (sym c.first_free.ensures ∙ c.in-Some.is) in
    let within = at.0 in
    record { small = omega arith; free = at.1; is = refl }
