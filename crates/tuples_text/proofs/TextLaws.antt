-- Laws of the fields of a text.
use Rattle.std.proofs.Common.{◌≡◌, ℕ, ◌+◌, ◌-◌, ◌*◌, ◌^◌, ◌<◌, ◌≤◌, ◌==◌, Bool, true, false, not, List, [], ◌∷◌, ◌++◌}
use Rattle.std.proofs.Common.{length, take, drop, get_or, Option, Some, None, Ok, Err, ℤ, suc, subst, refl, sym, ap}
use Rattle.std.proofs.Common.{◌∙◌, arith, cond}
use Rattle.std.specs.List.{list_all, count_by, filter_map, onto_first}
use Rattle.std.specs.Str.{all_ascii_digits}
use Rattle.std.specs.Str.Parse.{digits_value, AllDigits}
use Rattle.std.specs.Char.{digit_value}
use Rattle.std.proofs.lemmas.Str.{digit_value_digit}
use Rattle.std.proofs.lemmas.Str.Parse.{digit_at, numerals_by_value, tells_all_ascii_digits}
use Rattle.std.proofs.lemmas.Int.Digits.{digits_value_more, digits_more}
use Rattle.std.proofs.lemmas.List.Splits.{length-slice_split}
use Rattle.std.proofs.lemmas.Bool.{cond-true, cond-false, and_parts, and_from, not-true, ne_eqb, eq-eqb, cond_both}
use Rattle.std.proofs.lemmas.Bool.{le-leb, false_from_ne_true}
use Rattle.std.proofs.lemmas.List.{take-append-drop, drop_more, drop_all}
use Rattle.tuples_text.specs.Causes.{numbered, reader_answer}
use Rattle.tuples_text.specs.declared.cause.Cause.{Cause}
use Rattle.tuples_text.specs.declared.cause.Cause.TheVariants.{Number}
use Rattle.std.proofs.Math.Nat.{pow-le-pow_right, pow-suc}
use Rattle.std.proofs.lemmas.List.Folds.{list_all_more}
use Rattle.road_time.specs.Lines.{without_cr}
use Rattle.road_time.specs.Numbers.{are_digits, number_of, fields_of_text}
use Rattle.road_time.specs.Form.{first_odd, form, of_fields, of_numbers, Fields}

-- a byte that is no comma
abbrev pub is_inner : ℕ → Bool
is_inner b = not (b == 44)

-- a field ends at the first comma
pub fields_at : (ds rest : List ℕ) → list_all is_inner ds ≡ true →
    fields_of_text (ds ++ 44 ∷ rest) ≡ ds ∷ fields_of_text rest
fields_at [] rest e = refl
fields_at (d ∷ ds) rest e =
    let parts = and_parts (is_inner d) (list_all is_inner ds) e in
    cond-false (d == 44) _ _ (not-true _ parts.0) ∙ ap (onto_first d) (fields_at ds rest parts.1)

-- a text without a comma is one field
pub fields_none : (ds : List ℕ) → list_all is_inner ds ≡ true → fields_of_text ds ≡ ds ∷ []
fields_none [] e = refl
fields_none (d ∷ ds) e =
    let parts = and_parts (is_inner d) (list_all is_inner ds) e in
    cond-false (d == 44) _ _ (not-true _ parts.0) ∙ ap (onto_first d) (fields_none ds parts.1)

-- a text is what lies before a place, the byte there, and what comes after it
pub cut_at : (xs : List ℕ) (i b : ℕ) → i < length xs → get_or xs i 0 ≡ b → xs ≡ take i xs ++ b ∷ drop (i + 1) xs
cut_at xs i b h e =
    sym (take-append-drop i xs) ∙ ap (λ ys. take i xs ++ ys) (drop_more xs i 0 h ∙ ap (λ y. y ∷ drop (i + 1) xs) e)

-- a text is cut at its first comma
pub fields_cut : (xs : List ℕ) (i : ℕ) → i < length xs → list_all is_inner (take i xs) ≡ true → get_or xs i 0 ≡ 44 →
    fields_of_text xs ≡ take i xs ∷ fields_of_text (drop (i + 1) xs)
fields_cut xs i h e is = ap fields_of_text (cut_at xs i 44 h is) ∙ fields_at (take i xs) (drop (i + 1) xs) e

-- one byte more that is no comma
pub inner_more : (xs : List ℕ) (i b : ℕ) → i < length xs → b ≡ get_or xs i 0 → (b ≡ 44 → ⊥) →
    list_all is_inner (take i xs) ≡ true → list_all is_inner (take (i + 1) xs) ≡ true
inner_more xs i b h at ne e =
    list_all_more is_inner xs i 0 h ∙ and_from _ _ e (ap is_inner (sym at) ∙ ap not (ne_eqb b 44 ne))

-- ten digits are below 10 ^ 10
pub power_small : (i : ℕ) → i ≤ 10 → 10 ^ i ≤ 10000000000
power_small i h = pow-le-pow_right {n = 10} (omega arith) h

-- ---- a line without its last CR, and a text by its fields
pub cond_cons : (y : ℕ) (b : Bool) (xs ys : List ℕ) → y ∷ cond b xs ys ≡ cond b (y ∷ xs) (y ∷ ys)
cond_cons y true xs ys = refl
cond_cons y false xs ys = refl

-- the last CR alone is dropped
pub without_last : (xs : List ℕ) (x : ℕ) → without_cr (xs ++ x ∷ []) ≡ cond (x == 13) xs (xs ++ x ∷ [])
without_last [] x = refl
without_last (y ∷ []) x = cond_cons y (x == 13) [] (x ∷ [])
without_last (y ∷ z ∷ ys) x = ap (λ l. y ∷ l) (without_last (z ∷ ys) x)
    ∙ cond_cons y (x == 13) (z ∷ ys) (z ∷ (ys ++ x ∷ []))

-- a line is no longer without it
pub without_short : (xs : List ℕ) → length (without_cr xs) ≤ length xs
without_short [] = omega arith
without_short (b ∷ []) = cond_both (b == 13) [] (b ∷ []) (λ l. length l ≤ 1) (λ _. omega arith) (λ _. omega arith)
without_short (b ∷ c ∷ bs) = omega (arith, without_short (c ∷ bs))

-- a text has one field more than commas
pub count_commas : (bs : List ℕ) → length (fields_of_text bs) ≡ count_by (λ b. b == 44) bs + 1
count_commas bs = length-slice_split (λ b. b == 44) bs

-- a text of fifteen fields has the form of its fields
pub form_of_fields : (bs : List ℕ) → length (fields_of_text bs) ≡ 15 →
    form bs ≡ of_fields (fields_of_text bs) (first_odd (fields_of_text bs))
form_of_fields [] h = absurd (omega arith)
form_of_fields (b ∷ bs) h = cond-true _ _ _ (eq-eqb _ 15 h)

-- a line without its last CR, by its last byte
pub trimmed_at : (xs : List ℕ) → 0 < length xs →
    without_cr xs ≡ cond (get_or xs (length xs - 1) 0 == 13) (take (length xs - 1) xs) xs
trimmed_at xs h =
    let n = length xs - 1 in
    let x = get_or xs n 0 in
    let cut = cut_at xs n x (omega arith) refl ∙ ap (λ ys. take n xs ++ x ∷ ys) (drop_all (n + 1) xs (omega arith)) in
    ap without_cr cut ∙ without_last (take n xs) x ∙ ap (λ ys. cond (x == 13) (take n xs) ys) (sym cut)

-- where all fields are numbers, the form is that of the numbers
pub numbered_ok : (fields : List (List ℕ)) (odd : Option ℕ) (zs : List ℤ) →
    numbered odd (filter_map (number_of 10) fields) ≡ Ok zs → of_fields fields odd ≡ of_numbers zs
numbered_ok fields (Some n) zs e = cc
numbered_ok fields None zs e = let same : filter_map (number_of 10) fields ≡ zs = cc in ap of_numbers same

-- else the first that is none is its fault
pub numbered_err : (fields : List (List ℕ)) (odd : Option ℕ) (cause : Cause) →
    numbered odd (filter_map (number_of 10) fields) ≡ Err cause → reader_answer (of_fields fields odd) ≡ Err cause
numbered_err fields None cause e = cc
numbered_err fields (Some n) cause e = let same : Number n ≡ cause = cc in ap Err same

-- a text of another number of fields has that fault
pub form_of_count : (bs : List ℕ) (n : ℕ) → 0 < length bs → length (fields_of_text bs) ≡ n → (n ≡ 15 → ⊥) →
    form bs ≡ Err (Fields n)
form_of_count [] n h e ne = absurd (omega arith)
form_of_count (b ∷ bs) n h e ne = cond-false _ _ _ (ne_eqb _ 15 (λ is. ne (sym e ∙ is))) ∙ ap (λ k. Err (Fields k)) e

-- an empty line has no CR
pub trimmed_none : (xs : List ℕ) → length xs ≡ 0 → without_cr xs ≡ xs
trimmed_none [] e = refl
trimmed_none (b ∷ bs) e = absurd (omega arith)

-- ---- digits, read one after another
pub digit_more : (xs : List ℕ) (i b value : ℕ) → i < length xs → get_or xs i 0 ≡ b → 48 ≤ b → b ≤ 57 →
    value ≡ digits_value 10 (take i xs) → AllDigits 10 (take i xs) → value < 10 ^ i
    → (10 * value + (b - 48) ≡ digits_value 10 (take (i + 1) xs)) × AllDigits 10 (take (i + 1) xs)
    × (10 * value + (b - 48) < 10 ^ (i + 1))
digit_more xs i b value h at low high is all small =
    let d = digit_value_digit b (low, high) in
    let same = ap digit_value at in
    let next : suc i ≡ i + 1 = omega arith in
    let power : 10 ^ (i + 1) ≡ 10 ^ i * 10 = subst (λ n. 10 ^ n ≡ 10 ^ i * 10) next (pow-suc 10 i) in (
      omega (arith, digits_value_more 10 xs i h, is, d, same),
      digits_more 10 xs i h all (omega (arith, d, same)),
      omega (arith, power, small),
    )

-- one to ten digits are digits
pub are_all : (xs : List ℕ) → AllDigits 10 xs → 1 ≤ length xs → length xs ≤ 10 → are_digits 10 xs ≡ true
are_all xs all some few =
    and_from _ _ (le-leb 1 (length xs) some)
    (and_from _ _ (le-leb (length xs) 10 few)
    ((numerals_by_value (λ bs. all_ascii_digits bs ≡ true) tells_all_ascii_digits).from xs all))

-- a byte that is no digit
pub are_not : (xs : List ℕ) (i b : ℕ) → i < length xs → get_or xs i 0 ≡ b → (48 ≤ b → b ≤ 57 → ⊥) →
    are_digits 10 xs ≡ false
are_not xs i b h at out =
    false_from_ne_true _ (λ e.
    let parts = and_parts _ _ e in
    let more = and_parts _ _ parts.1 in
    let in_range =
    digit_at xs i ((numerals_by_value (λ bs. all_ascii_digits bs ≡ true) tells_all_ascii_digits).to xs more.1) h in
    out (omega (arith, in_range, at)) (omega (arith, in_range, at)))
