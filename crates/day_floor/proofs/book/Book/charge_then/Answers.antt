use Rattle.std.proofs.Common.{rules, ◌≡◌, ◌+◌, ◌<◌, ◌≤◌, arith, refl, sym, ap, subst, ◌∙◌, None, Some, IsSome, nat_eq}
use Rattle.std.specs.Map.{lookup, keys_of}
use Rattle.std.specs.List.{IsDistinct}
use Rattle.std.specs.Option.{option_map, option_copied_mut, unwrap_or}
use Rattle.std.specs.FinMap.{get}
use Rattle.std.proofs.Math.Facts.{Fits-of_lt}
use Rattle.std.proofs.lemmas.Map.{keys-set_value}
use Rattle.std.proofs.lemmas.Map.Steps.{set_value_same}
use Rattle.std.proofs.lemmas.Result.{err_from_is_err_and}
use Rattle.road_time.specs.declared.tariff.TheConstants.{GREATEST_TOLL}
use Rattle.day_floor.specs.declared.vehicle.Vehicle.{Vehicle}
use Rattle.day_floor.specs.Sums.{with_charge}
use Rattle.day_floor.specs.Entries.{first_after}
use Rattle.day_floor.specs.Books.{Accounts, retold, told_of, spent_sums}
use Rattle.day_floor.proofs.BookLaws.{book_made, get_told, told_after, next_few, told_few}
use Rattle.day_floor.proofs.BookLaws.{further_fits, first_fits, sum_fits, spent_charged, sound_charged}
use Rattle.day_floor.proofs.book.Book.charge_then.Goals as goal

pub unreachable-requires : goal.unreachable-requires
unreachable-requires c =
    let vehicles = c.self.inside.vehicles.entries in
    let none : lookup (nat_eq c.args.vid) vehicles ≡ None = sym c.get_mut.ensures.value
    ∙ ap option_copied_mut c.in_default.is in
    let told : get c.args.self.now.told c.args.vid ≡ None =
    sym (ap (λ (s : Accounts). get s.told c.args.vid) c.self.view_is)
    ∙ (get_told vehicles c.args.vid ∙ ap (option_map (λ x. x.told)) none) in
    let asked = subst IsSome told c.requires.told in
    cc asked

pub add_further-requires : goal.add_further-requires
add_further-requires c =
    let made : c.self.inside.made ≡ c.args.self.now.made = ap (λ (s : Accounts). s.made) c.self.view_is in
    let few : c.self.inside.made < 16000000 = omega (arith, made, c.requires.few) in
    further_fits c.self.inside.vehicles.entries c.self.inside.further.entries c.self.inside.total c.self.inside.made
    c.self.invariant c.args.vid c.in-Some.vehicle.now c.in-Some.ensures.value few c.args.xway

pub first_after-requires : goal.first_after-requires
first_after-requires c =
    let made : c.self.inside.made ≡ c.args.self.now.made = ap (λ (s : Accounts). s.made) c.self.view_is in
    let few : c.self.inside.made < 16000000 = omega (arith, made, c.requires.few) in
    rw c.get-first.ensures
    (first_fits c.self.inside.vehicles.entries c.self.inside.further.entries c.self.inside.total c.self.inside.made
    c.self.invariant c.args.vid c.in-Some.vehicle.now c.in-Some.ensures.value few c.args.xway)

pub overflow_add-vehicle : goal.overflow_add-vehicle
overflow_add-vehicle c =
    let made : c.self.inside.made ≡ c.args.self.now.made = ap (λ (s : Accounts). s.made) c.self.view_is in
    let few : c.self.inside.made < 16000000 = omega (arith, made, c.requires.few) in
    Fits-of_lt
    (sum_fits c.self.inside.vehicles.entries c.self.inside.further.entries c.self.inside.total c.self.inside.made
    c.self.invariant c.args.vid c.in-Some.vehicle.now c.in-Some.ensures.value few)

pub invariant_of-self : goal.invariant_of-self
invariant_of-self c =
    let vehicles = c.self.inside.vehicles.entries in
    let same = (c.get_mut.follows.holds c.in-Some.vehicle.now).0
    ∙ set_value_same (nat_eq c.args.vid) vehicles c.in-Some.vehicle.now (sym c.in-Some.ensures.value) in
    rw (same, c.in_err-add_further.ensures.refused) c.self.invariant

pub returns-in_err-add_further-clause-refused : goal.returns-in_err-add_further-clause-refused
returns-in_err-add_further-clause-refused c =
    let p = err_from_is_err_and c.from_residual.result c.from_residual.ensures.1 in
    let vehicles = c.self.inside.vehicles.entries in
    let same = (c.get_mut.follows.holds c.in-Some.vehicle.now).0
    ∙ set_value_same (nat_eq c.args.vid) vehicles c.in-Some.vehicle.now (sym c.in-Some.ensures.value) in
    rw p.1 (book_made (ap told_of same) (ap (λ vs. spent_sums vs c.add_further.new.sums.entries) same
    ∙ ap (spent_sums vehicles) c.in_err-add_further.ensures.refused) refl ∙ c.self.view_is)

pub invariant_of-self-2 : goal.invariant_of-self-2
invariant_of-self-2 c =
    let made : c.self.inside.made ≡ c.args.self.now.made = ap (λ (s : Accounts). s.made) c.self.view_is in
    let few : c.self.inside.made < 16000000 = omega (arith, made, c.requires.few) in
    let vehicles = c.self.inside.vehicles.entries in
    let is : Vehicle =
    record {
      told = c.unwrap_or.result;
      sum =
          c.in-Some.vehicle.now.sum + c.in-Some.vehicle.now.told;
      first = c.of.result;
    } in
    let few_told : c.unwrap_or.result ≤ GREATEST_TOLL =
    subst (λ n. n ≤ GREATEST_TOLL) (sym c.unwrap_or.ensures)
    (next_few c.args.next c.in-Some.vehicle.now.told
    (told_few vehicles c.self.inside.further.entries c.self.inside.total c.self.inside.made c.self.invariant
    c.args.vid c.in-Some.vehicle.now c.in-Some.ensures.value) c.requires.next) in
    sound_charged vehicles c.self.inside.further.entries c.self.inside.total c.self.inside.made c.self.invariant
    c.args.vid c.in-Some.vehicle.now c.in-Some.ensures.value few c.args.xway
    (c.get_mut.follows.lender is).entries c.add_further.new.sums.entries is few_told
    refl (c.of.ensures ∙ ap Some c.first_after.ensures
    ∙ ap (λ f. Some (first_after f c.args.xway c.in-Some.vehicle.now.told)) c.get-first.ensures)
    (subst (IsDistinct nat_eq)
    (sym (ap keys_of (c.get_mut.follows.holds is).0 ∙ keys-set_value (nat_eq c.args.vid) vehicles is))
    c.self.invariant.unique)
    (λ v. ((c.get_mut.follows.holds is).3 (search rules)).0 v)
    (rw (sym c.get-first.ensures) c.in_ok-add_further.ensures.added)

pub returns-clause-toll : goal.returns-clause-toll
returns-clause-toll c =
    ap (option_map (λ x. x.told)) c.in-Some.ensures.value
    ∙ (sym (get_told c.self.inside.vehicles.entries c.args.vid)
    ∙ ap (λ (s : Accounts). get s.told c.args.vid) c.self.view_is)

pub returns-clause-booked : goal.returns-clause-booked
returns-clause-booked c =
    let made : c.self.inside.made ≡ c.args.self.now.made = ap (λ (s : Accounts). s.made) c.self.view_is in
    let few : c.self.inside.made < 16000000 = omega (arith, made, c.requires.few) in
    let vehicles = c.self.inside.vehicles.entries in
    let is : Vehicle =
    record {
      told = c.unwrap_or.result;
      sum =
          c.in-Some.vehicle.now.sum + c.in-Some.vehicle.now.told;
      first = c.of.result;
    } in
    let few_told : c.unwrap_or.result ≤ GREATEST_TOLL =
    subst (λ n. n ≤ GREATEST_TOLL) (sym c.unwrap_or.ensures)
    (next_few c.args.next c.in-Some.vehicle.now.told
    (told_few vehicles c.self.inside.further.entries c.self.inside.total c.self.inside.made c.self.invariant
    c.args.vid c.in-Some.vehicle.now c.in-Some.ensures.value) c.requires.next) in
    book_made
    (told_after c.args.next vehicles (c.get_mut.follows.lender is).entries c.args.vid c.in-Some.vehicle.now is
    c.in-Some.ensures.value c.unwrap_or.ensures (λ v. ((c.get_mut.follows.holds is).3 (search rules)).0 v)
    ∙ ap (λ (s : Accounts). retold s.told c.args.vid c.args.next) c.self.view_is)
    (spent_charged vehicles c.self.inside.further.entries c.self.inside.total c.self.inside.made c.self.invariant
    c.args.vid c.in-Some.vehicle.now c.in-Some.ensures.value few c.args.xway
    (c.get_mut.follows.lender is).entries c.add_further.new.sums.entries is few_told
    refl (c.of.ensures ∙ ap Some c.first_after.ensures
    ∙ ap (λ f. Some (first_after f c.args.xway c.in-Some.vehicle.now.told)) c.get-first.ensures)
    (subst (IsDistinct nat_eq)
    (sym (ap keys_of (c.get_mut.follows.holds is).0 ∙ keys-set_value (nat_eq c.args.vid) vehicles is))
    c.self.invariant.unique)
    (λ v. ((c.get_mut.follows.holds is).3 (search rules)).0 v)
    (rw (sym c.get-first.ensures) c.in_ok-add_further.ensures.added)
    ∙ ap (λ (s : Accounts). with_charge s.spent
    (record { vid = c.args.vid; xway = c.args.xway; toll = c.in-Some.vehicle.now.told })) c.self.view_is)
    (ap (λ (s : Accounts). s.made + 1) c.self.view_is)
