use Rattle.std.proofs.Common.{◌≡◌, arith, sym, ◌∙◌, subst}
use Rattle.std.specs.Prelude.{None, Some, slice_get}
use Rattle.std.proofs.lemmas.Option.{none-some, same_Some, slice_get_within}
use Rattle.ways_crews.specs.Places.{IsTaken}
use Rattle.ways_crews.proofs.Numbers.{taken_at}
use Rattle.ways_crews.proofs.places.take_out.Goals as goal

pub taken-requires : goal.taken-requires
taken-requires g c =
    let (e, is) = taken_at c.args.number c.args.items.now c.requires.out in
    let within = slice_get_within c.args.items.now c.args.number _ is in
    let same = c.from.ensures in omega arith

pub unreachable-requires : goal.unreachable-requires
unreachable-requires g c =
    let (e, is) = taken_at c.args.number c.args.items.now c.requires.out in
    let none : slice_get c.args.items.now c.args.number ≡ Some None =
    subst (λ n. slice_get c.args.items.now n ≡ Some None) c.from.ensures (c.in-None.ensures).value in
    none-some e (same_Some _ _ (sym none ∙ is))

pub returns : goal.returns
returns g c =
    let (e, is) = taken_at c.args.number c.args.items.now c.requires.out in
    let within = slice_get_within c.args.items.now c.args.number _ is in
    let all = c.requires.all in
    subst (λ n. IsTaken n c.in-Some.entry c.args.items.now c.taken.new.items) c.from.ensures
    (record {
      small = (let same = c.from.ensures in omega arith);
      there = (c.in-Some.ensures).value;
      is = (c.in-Some.ensures).rest;
    })
