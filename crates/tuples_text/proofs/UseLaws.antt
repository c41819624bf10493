-- Laws of what the fields may hold.
use Rattle.std.proofs.Common.{◌≡◌, ℕ, ◌+◌, ◌<◌, ◌≤◌, Bool, true, false, not, List, [], ◌∷◌, length, drop, get_or, map}
use Rattle.std.proofs.Common.{Some, None, ℤ, pos, negsuc, inl, inr, zero, suc, nat_le, refl, sym, ap, ◌∙◌, arith}
use Rattle.std.specs.List.{zip, position_from}
use Rattle.std.proofs.lemmas.Bool.{cond-true, cond-false, cases_Bool, leb-true, and_parts}
use Rattle.std.proofs.lemmas.List.{drop_more, drop_all, get_or-map, get_or-drop, get_or_default, length-map}
use Rattle.std.proofs.lemmas.List.{length-drop}
use Rattle.tuples_text.specs.declared.tuples.Use.{Use as CodeUse}
use Rattle.tuples_text.specs.Uses.{use_of}
use Rattle.road_time.specs.Form.{Use, From, Unused, is_allowed, first_out, nat_of}

-- a number that its field may not hold
abbrev pub is_out : Use × ℤ → Bool
is_out p = not (is_allowed p.0 p.1)

-- a field that may hold its number is passed over
pub first_more : (us : List Use) (zs : List ℤ) (i : ℕ) → i < length us → i < length zs →
    is_allowed (get_or us i Unused) (get_or zs i (pos 0)) ≡ true →
    first_out (i + 2) (drop i us) (drop i zs) ≡ first_out (i + 1 + 2) (drop (i + 1) us) (drop (i + 1) zs)
first_more us zs i h k e =
    let n : i + 2 + 1 ≡ i + 1 + 2 = omega arith in
    ap (λ xs. first_out (i + 2) xs (drop i zs)) (drop_more us i Unused h)
    ∙ ap (λ ys. first_out (i + 2) (get_or us i Unused ∷ drop (i + 1) us) ys) (drop_more zs i (pos 0) k)
    ∙ cond-false _ _ _ (ap not e)
    ∙ ap (λ m. position_from is_out m (zip (drop (i + 1) us) (drop (i + 1) zs))) n

-- a field that may not is the first that is out
pub first_here : (us : List Use) (zs : List ℤ) (i : ℕ) → i < length us → i < length zs →
    is_allowed (get_or us i Unused) (get_or zs i (pos 0)) ≡ false →
    first_out (i + 2) (drop i us) (drop i zs) ≡ Some (i + 2)
first_here us zs i h k e =
    ap (λ xs. first_out (i + 2) xs (drop i zs)) (drop_more us i Unused h)
    ∙ ap (λ ys. first_out (i + 2) (get_or us i Unused ∷ drop (i + 1) us) ys) (drop_more zs i (pos 0) k)
    ∙ cond-true _ _ _ (ap not e)

-- after the last field none is out
pub first_none : (us : List Use) (zs : List ℤ) (i : ℕ) → length us ≤ i →
    first_out (i + 2) (drop i us) (drop i zs) ≡ None
first_none us zs i h = ap (λ xs. first_out (i + 2) xs (drop i zs)) (drop_all i us h)

-- the use and the number that the code reads at a place
pub read_at : (us : List CodeUse) (ns : List ℤ) (i : ℕ) (d : CodeUse) (e : ℤ) (b : Bool) → length us ≡ 14 →
    length ns ≡ 15 → i < 14 → is_allowed (use_of (get_or us i d)) (get_or ns (i + 1) e) ≡ b →
    is_allowed (get_or (map use_of us) i Unused) (get_or (drop 1 ns) i (pos 0)) ≡ b
read_at us ns i d e b lu ln h is =
    let at : 1 + i ≡ i + 1 = omega arith in
    ap (λ u. is_allowed u (get_or (drop 1 ns) i (pos 0))) (get_or-map use_of us i d Unused (omega arith))
    ∙ ap (is_allowed (use_of (get_or us i d))) (get_or-drop 1 ns i (pos 0) ∙ ap (λ k. get_or ns k (pos 0)) at
    ∙ get_or_default ns (i + 1) (pos 0) e (omega arith))
    ∙ is

-- the same of what the code reads
pub code_more : (us : List CodeUse) (ns : List ℤ) (i : ℕ) (d : CodeUse) (e : ℤ) → length us ≡ 14 → length ns ≡ 15 →
    i < 14 → is_allowed (use_of (get_or us i d)) (get_or ns (i + 1) e) ≡ true →
    first_out (i + 2) (drop i (map use_of us)) (drop i (drop 1 ns)) ≡ first_out (i + 1 + 2)
    (drop (i + 1) (map use_of us)) (drop (i + 1) (drop 1 ns))
code_more us ns i d e lu ln h is =
    first_more (map use_of us) (drop 1 ns) i (omega (arith, length-map us use_of)) (omega (arith, length-drop 1 ns))
    (read_at us ns i d e true lu ln h is)

-- the same of what the code reads
pub code_here : (us : List CodeUse) (ns : List ℤ) (i : ℕ) (d : CodeUse) (e : ℤ) → length us ≡ 14 → length ns ≡ 15 →
    i < 14 → is_allowed (use_of (get_or us i d)) (get_or ns (i + 1) e) ≡ false →
    first_out (i + 2) (drop i (map use_of us)) (drop i (drop 1 ns)) ≡ Some (i + 2)
code_here us ns i d e lu ln h is =
    first_here (map use_of us) (drop 1 ns) i (omega (arith, length-map us use_of)) (omega (arith, length-drop 1 ns))
    (read_at us ns i d e false lu ln h is)

-- ---- the tuple of numbers that are all allowed
pub allowed_at : (us : List Use) (zs : List ℤ) (n k : ℕ) → first_out n us zs ≡ None → k < length us → k < length zs →
    is_allowed (get_or us k Unused) (get_or zs k (pos 0)) ≡ true
allowed_at [] zs n k e h l = absurd (omega arith)
allowed_at (u ∷ us) [] n k e h l = absurd (omega arith)
allowed_at (u ∷ us) (z ∷ zs) n zero e h l =
    elim (cases_Bool (is_allowed u z)) [
      | inl is ↦ is
      | inr is ↦ let some = sym (cond-true _ (Some n) (first_out (n + 1) us zs) (ap not is)) ∙ e in cc
    ]
allowed_at (u ∷ us) (z ∷ zs) n (suc k) e h l =
    elim (cases_Bool (is_allowed u z)) [
      | inl is ↦ allowed_at us zs (n + 1) k (sym (cond-false _ (Some n) (first_out (n + 1) us zs) (ap not is)) ∙ e)
          (omega arith) (omega arith)
      | inr is ↦ let some = sym (cond-true _ (Some n) (first_out (n + 1) us zs) (ap not is)) ∙ e in cc
    ]

-- a number in its range is at most its greatest
pub below_high : (low high : ℕ) (z : ℤ) → is_allowed (From low high) z ≡ true → nat_of z ≤ high
below_high low high (pos n) e = leb-true n high (and_parts (nat_le low n) (nat_le n high) e).1
below_high low high (negsuc n) e = cc

-- the number of a field that is to be at most high
pub field_below : (us : List Use) (ns : List ℤ) (k low high : ℕ) → first_out 2 us (drop 1 ns) ≡ None → length us ≡ 14 →
    length ns ≡ 15 → k < 14 → get_or us k Unused ≡ From low high → nat_of (get_or ns (k + 1) (pos 0)) ≤ high
field_below us ns k low high e lu ln h is =
    let at : 1 + k ≡ k + 1 = omega arith in
    let same = get_or-drop 1 ns k (pos 0) ∙ ap (λ i. get_or ns i (pos 0)) at in
    let allowed = allowed_at us (drop 1 ns) 2 k e (omega arith) (omega (arith, length-drop 1 ns)) in
    below_high low high (get_or ns (k + 1) (pos 0))
    (ap (λ z. is_allowed (From low high) z) (sym same)
    ∙ ap (λ u. is_allowed u (get_or (drop 1 ns) k (pos 0))) (sym is) ∙ allowed)

-- fifteen numbers, one by one
pub all_fifteen : (ns : List ℤ) → length ns ≡ 15 → ns ≡ get_or ns 0 (pos 0) ∷ get_or ns 1 (pos 0) ∷ get_or ns 2 (pos 0)
    ∷ get_or ns 3 (pos 0) ∷ get_or ns 4 (pos 0) ∷ get_or ns 5 (pos 0) ∷ get_or ns 6 (pos 0) ∷ get_or ns 7 (pos 0)
    ∷ get_or ns 8 (pos 0) ∷ get_or ns 9 (pos 0) ∷ get_or ns 10 (pos 0) ∷ get_or ns 11 (pos 0) ∷ get_or ns 12 (pos 0)
    ∷ get_or ns 13 (pos 0) ∷ get_or ns 14 (pos 0) ∷ []
all_fifteen (a ∷ b ∷ c ∷ d ∷ e ∷ f ∷ g ∷ h ∷ i ∷ j ∷ k ∷ l ∷ m ∷ n ∷ o ∷ []) is = refl
all_fifteen ns is = absurd (omega arith)
