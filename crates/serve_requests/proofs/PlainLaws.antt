-- Laws of text that needs no escape.
use Rattle.std.proofs.Common.{◌≡◌, ℕ, suc, codes, decimal, ◌^◌, ◌/◌, ◌%◌, ◌<◌, ◌≤◌, ◌==◌, nat_lt}
use Rattle.std.proofs.Common.{Bool, true, false, not, List, [], ◌∷◌, ◌++◌, get_or, leb-true, refl}
use Rattle.std.proofs.Common.{ap, ◌∙◌, arith, append_assoc}
use Rattle.std.proofs.lemmas.Bool.{and_parts, and_from, not-true, le-leb, ne_eqb}
use Rattle.std.specs.Str.Parse.{AllDigits}
use Rattle.std.proofs.lemmas.Str.Parse.{digit_from_value}
use Rattle.std.proofs.lemmas.Fmt.{decimal_is_IsNumeral}
use Rattle.std.proofs.lemmas.List.Folds.{list_all_at, list_all-append}
use Rattle.json.specs.Print.{escape_byte, escape, quoted}
use Rattle.hex.specs.Hex.{encode_with, encode_lower, lower_digits}
use Rattle.serve_requests.specs.Plain.{is_plain_byte, is_plain}

-- a plain byte is no quote, no backslash and no control byte
plain_parts : (b : ℕ) → is_plain_byte b ≡ true → (32 ≤ b) × ((b == 34) ≡ false) × ((b == 92) ≡ false)
plain_parts b e =
    let low = and_parts _ _ e in
    let rest = and_parts _ _ low.1 in
    (leb-true 32 b low.0, not-true _ rest.0, not-true _ rest.1)

escape_one : (b : ℕ) → is_plain_byte b ≡ true → escape_byte b ≡ b ∷ []
unfolding escape_byte
escape_one b e =
    let p = plain_parts b e in
    let small : nat_lt b 32 ≡ false = grind (arith, p.0) in
    let e8 : (b == 8) ≡ false = ne_eqb b 8 (λ is. omega (arith, p.0)) in
    let e12 : (b == 12) ≡ false = ne_eqb b 12 (λ is. omega (arith, p.0)) in
    let e10 : (b == 10) ≡ false = ne_eqb b 10 (λ is. omega (arith, p.0)) in
    let e13 : (b == 13) ≡ false = ne_eqb b 13 (λ is. omega (arith, p.0)) in
    let e9 : (b == 9) ≡ false = ne_eqb b 9 (λ is. omega (arith, p.0)) in
    simp (p.1, p.2, e8, e12, e10, e13, e9, small)

escape_plain : (s : List ℕ) → is_plain s ≡ true → escape s ≡ s
escape_plain [] e = refl
escape_plain (b ∷ s) e =
    let p = and_parts (is_plain_byte b) (is_plain s) e in
    ap (λ l. l ++ escape s) (escape_one b p.0) ∙ ap (λ l. b ∷ l) (escape_plain s p.1)

-- a plain text between quotes, and what follows
pub quoted_then : (s rest : List ℕ) → is_plain s ≡ true → quoted s ++ rest ≡ 34 ∷ (s ++ 34 ∷ rest)
quoted_then s rest e =
    ap (λ l. 34 ∷ l) (append_assoc (escape s) (34 ∷ []) rest ∙ ap (λ l. l ++ 34 ∷ rest) (escape_plain s e))

-- a digit of hexadecimal text
hex_digit : (n : ℕ) → n < 16 → is_plain_byte (get_or lower_digits n 0) ≡ true
hex_digit n less =
    (true_or (is_plain_byte (get_or lower_digits n 0))
    (λ bad. absurd (clash (list_all_at is_plain_byte lower_digits n 0 less bad))))
  where
    clash : is_plain lower_digits ≡ false → ⊥
    clash e = cc e

    true_or : (b : Bool) → (b ≡ false → ⊥) → b ≡ true
    true_or true h = refl
    true_or false h = absurd (h refl)

-- hexadecimal text needs no escape
pub hex_plain : (bytes : List ℕ) → ((i : ℕ) → get_or bytes i 0 < 256) → is_plain (encode_lower bytes) ≡ true
unfolding encode_with
hex_plain [] small = refl
hex_plain (b ∷ bytes) small =
    let less : b < 256 = small 0 in
    and_from _ _ (hex_digit (b / 16) (omega arith))
    (and_from _ _ (hex_digit (b % 16) (omega arith)) (hex_plain bytes (λ i. small (suc i))))

-- digits need no escape
digits_plain : (ds : List ℕ) → AllDigits 10 ds → is_plain ds ≡ true
digits_plain [] e = refl
digits_plain (b ∷ ds) e =
    let digit = digit_from_value b e.0 in
    and_from _ _
    (and_from _ _ (le-leb 32 b (omega (arith, digit)))
    (and_from _ _ (ap not (ne_eqb b 34 (λ is. omega (arith, digit))))
    (ap not (ne_eqb b 92 (λ is. omega (arith, digit)))))) (digits_plain ds e.1)

pub decimal_plain : (n : ℕ) → n < 2 ^ 64 → is_plain (decimal n) ≡ true
decimal_plain n h = digits_plain (decimal n) (decimal_is_IsNumeral n h).0.1

-- a word and a number
pub word_plain : (w : List ℕ) (n : ℕ) → is_plain w ≡ true → n < 2 ^ 64 → is_plain (w ++ decimal n) ≡ true
word_plain w n e h = list_all-append is_plain_byte w (decimal n) ∙ and_from _ _ e (decimal_plain n h)

-- a word and two numbers
pub words_plain : (w : List ℕ) (m n : ℕ) → is_plain w ≡ true → m < 2 ^ 64 → n < 2 ^ 64 →
    is_plain (w ++ decimal m ++ codes " " ++ decimal n) ≡ true
words_plain w m n e h k =
    let front = list_all-append is_plain_byte (w ++ decimal m) (codes " ") ∙ and_from _ _ (word_plain w m e h) refl in
    word_plain (w ++ decimal m ++ codes " ") n front k
