-- Laws of cutting a text at a byte.
use Rattle.std.proofs.Common.{◌≡◌, ℕ, ◌+◌, ◌<◌, ◌≤◌, ◌==◌, cond, false, Bool, true, not, List, [], ◌∷◌, ◌++◌, length}
use Rattle.std.proofs.Common.{take, drop, get_or, None, refl, sym, ap, subst, ◌∙◌, arith, zero, suc}
use Rattle.std.specs.List.{list_all, onto_first}
use Rattle.std.proofs.lemmas.Bool.{cond-false, cond-true, and_parts, and_from, not-true, false_from_ne_true, eqb-true}
use Rattle.std.proofs.lemmas.List.{take_all}
use Rattle.std.proofs.lemmas.List.Folds.{list_all_more}
use Rattle.serve_requests.specs.Paths.{parts_at, parts_of, spent_path, vehicle_path}
use Rattle.road_io.proofs.LineLaws.{cut_at}

-- a byte that is another
abbrev pub is_other : ℕ → ℕ → Bool
is_other byte b = not (b == byte)

-- a text is cut at a byte
pub parts_cut : (byte : ℕ) (p rest : List ℕ) → list_all (is_other byte) p ≡ true →
    parts_at byte (p ++ byte ∷ rest) ≡ p ∷ parts_at byte rest
parts_cut byte [] rest e = cond-true (byte == byte) _ _ (grind arith)
parts_cut byte (b ∷ p) rest e =
    let parts = and_parts (is_other byte b) (list_all (is_other byte) p) e in
    cond-false (b == byte) _ _ (not-true _ parts.0) ∙ ap (onto_first b) (parts_cut byte p rest parts.1)

-- a text without the byte is one part
pub parts_none : (byte : ℕ) (p : List ℕ) → list_all (is_other byte) p ≡ true → parts_at byte p ≡ p ∷ []
parts_none byte [] e = refl
parts_none byte (b ∷ p) e =
    let parts = and_parts (is_other byte b) (list_all (is_other byte) p) e in
    cond-false (b == byte) _ _ (not-true _ parts.0) ∙ ap (onto_first b) (parts_none byte p parts.1)

-- the byte stands nowhere below a place
abbrev pub AbsentBelow : ℕ → List ℕ → ℕ → Type 0
AbsentBelow byte w n = (k : ℕ) → 0 ≤ k → k < n → (get_or w k 0 == byte) ≡ true → ⊥

-- the bytes below it are others
pub others_below : (byte : ℕ) (xs : List ℕ) (n : ℕ) → n ≤ length xs → AbsentBelow byte xs n →
    list_all (is_other byte) (take n xs) ≡ true
others_below byte xs zero h absent = refl
others_below byte xs (suc n) h absent =
    let below = others_below byte xs n (omega arith) (λ k l m. absent k l (omega arith)) in
    let here : is_other byte (get_or xs n 0) ≡ true =
    ap not (false_from_ne_true _ (λ e. absent n (omega arith) (omega arith) e)) in
    let one : n + 1 ≡ suc n = omega arith in
    subst (λ m. list_all (is_other byte) (take m xs) ≡ true) one
    (list_all_more (is_other byte) xs n 0 (omega arith) ∙ and_from _ _ below here)

-- a text is cut where a byte stands first
pub cut_found : (byte : ℕ) (xs rest : List ℕ) (i : ℕ) → i < length xs → AbsentBelow byte xs i →
    (get_or xs i 0 == byte) ≡ true → rest ≡ drop (i + 1) xs → parts_at byte xs ≡ take i xs ∷ parts_at byte rest
cut_found byte xs rest i h absent at is =
    ap (parts_at byte) (cut_at xs i byte h (eqb-true (get_or xs i 0) byte at))
    ∙ parts_cut byte (take i xs) (drop (i + 1) xs) (others_below byte xs i (omega arith) absent)
    ∙ ap (λ r. take i xs ∷ parts_at byte r) (sym is)

-- a text in which it stands nowhere is one part
pub cut_absent : (byte : ℕ) (xs : List ℕ) → AbsentBelow byte xs (length xs) → parts_at byte xs ≡ xs ∷ []
cut_absent byte xs absent =
    let all = take_all (length xs) xs (omega arith) in
    parts_none byte xs (ap (list_all (is_other byte)) (sym all) ∙ others_below byte xs (length xs) (omega arith) absent)

-- there is a first part
pub parts_some : (byte : ℕ) (xs : List ℕ) → 0 < length (parts_at byte xs)
parts_some byte [] = omega arith
parts_some byte (x ∷ xs) = by (x == byte) (parts_some byte xs)
  where
    one : (ls : List (List ℕ)) → 0 < length (onto_first x ls)
    one [] = omega arith
    one (l ∷ ls) = omega arith

    by : (v : Bool) → 0 < length (parts_at byte xs) →
        0 < length (cond v ([] ∷ parts_at byte xs) (onto_first x (parts_at byte xs)))
    by true h = omega arith
    by false h = one (parts_at byte xs)

-- a text that is cut three times has four parts or more
four_cut : (text a b c r s t : List ℕ) → parts_of text ≡ a ∷ parts_of r → parts_of r ≡ b ∷ parts_of s →
    parts_of s ≡ c ∷ parts_of t → parts_of text ≡ a ∷ b ∷ c ∷ parts_of t
four_cut text a b c r s t x y z = x ∙ ap (λ l. a ∷ l) (y ∙ ap (λ l. b ∷ l) z)

-- a text of four parts or more names no charge
pub four_parts : (text a b c r s t : List ℕ) → parts_of text ≡ a ∷ parts_of r → parts_of r ≡ b ∷ parts_of s →
    parts_of s ≡ c ∷ parts_of t → None ≡ spent_path (parts_of text)
four_parts text a b c r s t x y z =
    more (parts_of t) (parts_some 47 t) ∙ sym (ap spent_path (four_cut text a b c r s t x y z))
  where
    more : (ls : List (List ℕ)) → 0 < length ls → None ≡ spent_path (a ∷ b ∷ c ∷ ls)
    more [] h = absurd (omega arith)
    more (l ∷ ls) h = refl

-- nor a vehicle's statement
pub four_named : (text a b c r s t : List ℕ) → parts_of text ≡ a ∷ parts_of r → parts_of r ≡ b ∷ parts_of s →
    parts_of s ≡ c ∷ parts_of t → None ≡ vehicle_path (parts_of text)
four_named text a b c r s t x y z =
    more (parts_of t) (parts_some 47 t) ∙ sym (ap vehicle_path (four_cut text a b c r s t x y z))
  where
    more : (ls : List (List ℕ)) → 0 < length ls → None ≡ vehicle_path (a ∷ b ∷ c ∷ ls)
    more [] h = absurd (omega arith)
    more (l ∷ ls) h = refl
