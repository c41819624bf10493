-- Parts of a path: numbers, the parts between slashes, and what a path begins with.
use Rattle.std.proofs.Common.{◌≡◌, ℕ, ◌<◌, ◌==◌, Bool, true, false, cond, List, ◌∷◌, ◌++◌, length, drop, Some, None}
use Rattle.std.proofs.Common.{refl, sym, ap, ◌∙◌, arith, []}
use Rattle.std.specs.List.{onto_first}
use Rattle.std.specs.Str.{all_ascii_digits, bytes_eq, IsAscii}
use Rattle.std.specs.Str.Parse.{digits_value}
use Rattle.std.proofs.lemmas.Bool.{cond-false, and_parts, leb-true, ne_eqb, eqb-true}
use Rattle.std.proofs.lemmas.List.{take-append-drop}
use Rattle.std.proofs.lemmas.Str.Ascii.{IsAscii-nil, IsAscii-cons}
use Rattle.road_time.specs.Numbers.{are_digits}
use Rattle.matchit.specs.Seek.{has_slash}
use Rattle.matchit.specs.Level.{IsText}
use Rattle.serve_requests.specs.Numbers.{in_range, number_in}
use Rattle.serve_requests.specs.Paths.{parts_at, begins_with}
use Rattle.serve_requests.proofs.PathLaws.{parts_some}
use Rattle.serve_requests.specs.Rows.{IsPart}

-- digits are bytes, and none is a slash
digits_plain : (ds : List ℕ) → all_ascii_digits ds ≡ true → IsText ds × (has_slash ds ≡ false)
digits_plain [] e = (tt, refl)
digits_plain (d ∷ ds) e =
    let p = and_parts _ _ e in
    let q = and_parts _ _ p.0 in
    let low = leb-true 48 d q.0 in
    let high = leb-true d 57 q.1 in
    let rest = digits_plain ds p.1 in
    ((omega (arith, high), rest.0), cond-false (d == 47) _ _ (ne_eqb d 47 (λ is. omega (arith, is, low))) ∙ rest.1)

-- digits are ASCII
digits_ascii : (ds : List ℕ) → all_ascii_digits ds ≡ true → IsAscii ds
digits_ascii [] e = IsAscii-nil
digits_ascii (d ∷ ds) e =
    let p = and_parts _ _ e in
    let high = leb-true d 57 (and_parts _ _ p.0).1 in
    IsAscii-cons d ds (omega (arith, high)) (digits_ascii ds p.1)

-- a part of a path that is a number
abbrev pub IsNumber : List ℕ → Type 0
IsNumber part = IsPart part × IsAscii part

-- one to ten digits are such a part
digits_part : (ds : List ℕ) → are_digits 10 ds ≡ true → IsNumber ds
digits_part ds e =
    let p = and_parts _ _ e in
    let q = and_parts _ _ p.1 in
    let plain = digits_plain ds q.1 in
    (record { some = leb-true 1 (length ds) p.0; text = plain.0; whole = plain.1 }, digits_ascii ds q.1)

-- a number within a range is
pub number_part : (low high : ℕ) (ds : List ℕ) (n : ℕ) → number_in low high ds ≡ Some n → IsNumber ds
number_part low high ds n is = by (are_digits 10 ds) refl is
  where
    by : (v : Bool) → are_digits 10 ds ≡ v → in_range low high (cond v (Some (digits_value 10 ds)) None) ≡ Some n →
        IsNumber ds
    by true e h = digits_part ds e
    by false e h = absurd (cc h)

-- parts with a slash between two
abbrev glue : List ℕ → List (List ℕ) → List ℕ
glue p [] = p
glue p (q ∷ r) = p ++ 47 ∷ glue q r

-- and so all parts
abbrev pub glued : List (List ℕ) → List ℕ
glued [] = []
glued (p ∷ r) = glue p r

-- a byte more before the first part
glue_onto : (x : ℕ) (p : List ℕ) (r : List (List ℕ)) → glue (x ∷ p) r ≡ x ∷ glue p r
glue_onto x p [] = refl
glue_onto x p (q ∷ r) = refl

-- a text's parts with slashes between them are the text
pub glue_parts : (text : List ℕ) → glued (parts_at 47 text) ≡ text
glue_parts [] = refl
glue_parts (x ∷ xs) = by (x == 47) refl (parts_at 47 xs) (parts_some 47 xs) (glue_parts xs)
  where
    by : (v : Bool) → (x == 47) ≡ v → (ls : List (List ℕ)) → 0 < length ls → glued ls ≡ xs →
        glued (cond v ([] ∷ ls) (onto_first x ls)) ≡ x ∷ xs
    by true e [] h g = absurd (omega (arith, h))
    by true e (q ∷ r) h g = ap (λ l. 47 ∷ l) g ∙ ap (λ y. y ∷ xs) (sym (eqb-true x 47 e))
    by false e [] h g = absurd (omega (arith, h))
    by false e (q ∷ r) h g = glue_onto x q r ∙ ap (λ l. x ∷ l) g

-- texts that are equal byte by byte are one
pub bytes_same : (xs ys : List ℕ) → bytes_eq xs ys ≡ true → xs ≡ ys
bytes_same [] [] e = refl
bytes_same [] (y ∷ ys) e = absurd (cc e)
bytes_same (x ∷ xs) [] e = absurd (cc e)
bytes_same (x ∷ xs) (y ∷ ys) e =
    let p = and_parts _ _ e in
    ap (λ z. z ∷ xs) (eqb-true x y p.0) ∙ ap (λ l. y ∷ l) (bytes_same xs ys p.1)

-- a text that begins with a front
pub front_is : (path front : List ℕ) → begins_with path front ≡ true → path ≡ front ++ drop (length front) path
front_is path front e = sym (take-append-drop (length front) path)
    ∙ ap (λ l. l ++ drop (length front) path) (bytes_same _ _ e)
