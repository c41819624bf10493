-- The numbers of a history's line.
use Rattle.std.proofs.Common.{◌≡◌, ◌<◌, ℕ, List, [], ◌∷◌, length, get_or, Option, Some, None, Ok, ℤ, pos, refl, ap, ◌∙◌}
use Rattle.std.proofs.Common.{arith, eq-eqb}
use Rattle.std.specs.List.{filter_map}
use Rattle.std.proofs.lemmas.Bool.{cond-true}
use Rattle.road_time.specs.Numbers.{number_of, fields_of_text}
use Rattle.road_time.specs.Form.{first_odd, first_out}
use Rattle.keep_office.specs.PastReads.{past_form, past_of_fields, past_in_ranges, past_uses}
use Rattle.day_past.specs.Causes.{four_numbers}

-- four fields that are numbers
numbered : (base : ℕ) (fields : List (List ℕ)) (odd : Option ℕ) (zs : List ℤ) →
    four_numbers odd (filter_map (number_of 10) fields) ≡ Ok zs →
    past_of_fields base fields odd ≡ past_in_ranges base zs (first_out 1 past_uses zs)
numbered base fields (Some n) zs e = cc
numbered base fields None zs e = let same : filter_map (number_of 10) fields ≡ zs = cc in
    ap (λ ys. past_in_ranges base ys (first_out 1 past_uses ys)) same

-- a text of four fields that are numbers
pub form_of_four : (base : ℕ) (bs : List ℕ) (zs : List ℤ) → length (fields_of_text bs) ≡ 4 →
    four_numbers (first_odd (fields_of_text bs)) (filter_map (number_of 10) (fields_of_text bs)) ≡ Ok zs → 0 < length bs
    → past_form base bs ≡ past_in_ranges base zs (first_out 1 past_uses zs)
form_of_four base [] zs four e some = absurd (omega arith)
form_of_four base (b ∷ bs) zs four e some = cond-true _ _ _ (eq-eqb _ 4 four)
    ∙ numbered base (fields_of_text (b ∷ bs)) (first_odd (fields_of_text (b ∷ bs))) zs e

-- four numbers, one by one
pub all_four : (ns : List ℤ) → length ns ≡ 4 → ns ≡ get_or ns 0 (pos 0) ∷ get_or ns 1 (pos 0) ∷ get_or ns 2 (pos 0)
    ∷ get_or ns 3 (pos 0) ∷ []
all_four (a ∷ b ∷ c ∷ d ∷ []) is = refl
all_four ns is = absurd (omega arith)
