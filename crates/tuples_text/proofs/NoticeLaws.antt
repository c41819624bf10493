-- Laws of a line that is written from its end.
use Rattle.std.proofs.Common.{◌≡◌, ℕ, ◌+◌, ◌^◌, ◌<◌, ◌≤◌, List, [], ◌∷◌, ◌++◌, length, drop, ℤ, pos, negsuc, lit<}
use Rattle.std.proofs.Common.{arith, ap, refl, sym, ◌∙◌, append_assoc}
use Rattle.std.specs.Fmt.{decimal, signed_decimal}
use Rattle.std.proofs.lemmas.Fmt.{decimal_digit, length-decimal-le}
use Rattle.std.proofs.lemmas.List.{drop_all}
use Rattle.road_time.specs.Numbers.{numbers_text}
use Rattle.tuples_text.specs.Ends.{fields_then, line_end}

-- a line of numbers is their text and LF
pub line_is : (z : ℤ) (zs : List ℤ) → fields_then z zs ≡ numbers_text (z ∷ zs) ++ 10 ∷ []
line_is z [] = refl
line_is z (w ∷ ws) =
    ap (λ l. signed_decimal z ++ 44 ∷ l) (line_is w ws)
    ∙ sym (append_assoc (signed_decimal z) (44 ∷ numbers_text (w ∷ ws)) (10 ∷ []))

-- a number of 64 bits has at most twenty digits
pub few_digits : (n : ℕ) → n < 2 ^ 64 → length (decimal n) ≤ 20
few_digits n h = length-decimal-le 20 n (omega arith) (omega arith) h

-- one field more before an end
pub field_before : (l : List ℕ) (z y : ℤ) (rest : List ℕ) (zs : List ℤ) → l ≡ 44 ∷ (signed_decimal y ++ rest) → y ≡ z →
    rest ≡ line_end zs → l ≡ line_end (z ∷ zs)
field_before l z y rest zs is same end = is ∙ ap (λ x. 44 ∷ (signed_decimal x ++ rest)) same
    ∙ ap (λ r. 44 ∷ (signed_decimal z ++ r)) end

-- the kind before the other fields
pub kind_before : (l : List ℕ) (kind b : ℕ) (rest : List ℕ) (zs : List ℤ) → l ≡ b ∷ rest → b ≡ 48 + kind → kind < 10 →
    rest ≡ line_end zs → l ≡ fields_then (pos kind) zs
kind_before l kind b rest zs is byte h end =
    is ∙ ap (λ x. x ∷ rest) byte ∙ ap (λ r. (48 + kind) ∷ r) end
    ∙ ap (λ ds. ds ++ line_end zs) (sym (decimal_digit kind h))

-- the LF is the end of a line
pub end_at : (room : ℕ) (l line : List ℕ) → l ≡ 10 ∷ drop room line → length line ≡ room → l ≡ line_end []
end_at room l line is long = is ∙ ap (λ r. 10 ∷ r) (drop_all room line (omega arith))

-- the text of -1
pub minus_one : signed_decimal (negsuc 0) ≡ 45 ∷ 49 ∷ []
minus_one = ap (λ ds. 45 ∷ ds) (decimal_digit 1 (lit< tt))
