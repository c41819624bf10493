use Rattle.std.specs.Prelude.{is_none}
use Rattle.std.proofs.Common.{◌≡◌, ◌+◌, ◌∷◌, ◌++◌, None, [], Some, cond, length, take, append_assoc, arith, sym, ap}
use Rattle.std.proofs.Common.{refl, ◌∙◌, option_copied, to_z, of_z, w64, rules}
use Rattle.std.specs.List.{cons_option, filter_map}
use Rattle.std.proofs.lemmas.List.{length-set, take_more_set, nil_from_length, take_all, append-nil}
use Rattle.road_time.specs.Numbers.{number_of, fields_of_text}
use Rattle.tuples_text.specs.Fields.{fields_after, odd_from}
use Rattle.day_past.specs.Causes.{four_numbers}
use Rattle.day_past.proofs.lines.numbers.Goals as goal

pub loop-i-init : goal.loop-i-init
loop-i-init c = record {
  room = search rules;
  left = omega arith;
  odd = refl;
  read = refl;
}

pub loop-i-preserved : goal.loop-i-preserved
loop-i-preserved c =
    let i = c.loop-i.i in
    let ns = c.loop-i.numbers in
    let z = c.in-Some-number.z in
    let fs = fields_after (option_copied c.split_field.result.1) in
    let rest = filter_map (number_of 10) fs in
    let cut = ap (λ o. fields_after (option_copied o)) c.in-Some.is ∙ c.split_field.ensures in
    let whole : to_z w64 (of_z w64 z) ≡ z = search rules in
    let is : number_of 10 c.split_field.result.0.now ≡ Some z = sym c.number.ensures ∙ c.in-Some-number.is in
    record {
      room = length-set ns i _ ∙ c.loop-i.invariant.room;
      left = omega (arith, ap length cut);
      odd = c.loop-i.invariant.odd ∙ ap (odd_from (i + 1)) cut
          ∙ ap (λ o. cond (is_none o) (Some (i + 1)) (odd_from (i + 1 + 1) fs)) is;
      read = c.loop-i.invariant.read ∙ ap (λ xs. take i ns ++ filter_map (number_of 10) xs) cut
          ∙ ap (λ o. take i ns ++ cons_option o rest) is ∙ sym (append_assoc (take i ns) (z ∷ []) rest)
          ∙ ap (λ x. (take i ns ++ x ∷ []) ++ rest) (sym whole)
          ∙ ap (λ xs. xs ++ rest) (sym (take_more_set ns i (to_z w64 (of_z w64 z)) (omega arith)));
    }

pub returns-in_default-number : goal.returns-in_default-number
returns-in_default-number c =
    let i = c.loop-i.i in
    let fs = fields_after (option_copied c.split_field.result.1) in
    let all = filter_map (number_of 10) (fields_of_text c.args.text.now) in
    let cut = ap (λ o. fields_after (option_copied o)) c.in-Some.is ∙ c.split_field.ensures in
    let is : number_of 10 c.split_field.result.0.now ≡ None = sym c.number.ensures ∙ c.in_default-number.is in
    sym (ap (λ o. four_numbers o all)
    (c.loop-i.invariant.odd ∙ ap (odd_from (i + 1)) cut
    ∙ ap (λ o. cond (is_none o) (Some (i + 1)) (odd_from (i + 1 + 1) fs)) is))

pub returns : goal.returns
returns c =
    let ns = c.loop-i.numbers in
    let i = c.loop-i.i in
    let all = filter_map (number_of 10) (fields_of_text c.args.text.now) in
    let none = nil_from_length (fields_after (option_copied c.loop-i.rest)) (omega arith) in
    sym (ap (λ o. four_numbers o all) (c.loop-i.invariant.odd ∙ ap (odd_from (i + 1)) none)
    ∙ ap (four_numbers None) (c.loop-i.invariant.read ∙ ap (λ xs. take i ns ++ filter_map (number_of 10) xs) none
    ∙ append-nil (take i ns) ∙ take_all i ns (omega arith)))
