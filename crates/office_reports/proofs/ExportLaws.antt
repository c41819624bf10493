-- A line of numbers needs no quotes.
use Rattle.std.proofs.Common.{◌≡◌, ℕ, ◌<◌, ◌≤◌, ◌^◌, ◌==◌, ◌||◌, false, List, [], ◌∷◌, ◌++◌, decimal, codes, refl, ap}
use Rattle.std.proofs.Common.{◌∙◌, arith, append_assoc}
use Rattle.std.specs.List.{list_any}
use Rattle.std.specs.Str.Parse.{AllDigits}
use Rattle.std.proofs.lemmas.Bool.{ne_eqb, cond-false}
use Rattle.std.proofs.lemmas.Fmt.{decimal_is_IsNumeral}
use Rattle.std.proofs.lemmas.List.{append-nil}
use Rattle.std.proofs.lemmas.Str.Parse.{digit_from_value}
use Rattle.csv.specs.Quoting.{needs_byte}
use Rattle.csv.specs.Writing.{default_writer, field_text, fields_text, is_blank, row_text}
use Rattle.road_time.specs.declared.day.SpentRow.{SpentRow}
use Rattle.office_reports.specs.Exports.{export_line}

-- a byte from the digits up needs none
plain_byte : (b : ℕ) → 45 ≤ b → needs_byte default_writer b ≡ false
plain_byte b h =
    let comma : (b == 44) ≡ false = ne_eqb b 44 (λ e. absurd (omega (arith, h, e))) in
    let mark : (b == 34) ≡ false = ne_eqb b 34 (λ e. absurd (omega (arith, h, e))) in
    let return : (b == 13) ≡ false = ne_eqb b 13 (λ e. absurd (omega (arith, h, e))) in
    let feed : (b == 10) ≡ false = ne_eqb b 10 (λ e. absurd (omega (arith, h, e))) in
    rw (comma, mark, return, feed) refl

-- no digit of a number needs them
plain_digits : (ds : List ℕ) → AllDigits 10 ds → list_any (needs_byte default_writer) ds ≡ false
plain_digits [] h = refl
plain_digits (c ∷ cs) h = let k = digit_from_value c h.0 in
    ap (λ b. b || list_any (needs_byte default_writer) cs) (plain_byte c (omega (arith, k))) ∙ plain_digits cs h.1

-- a number stands as it is
plain_number : (n : ℕ) → n < 2 ^ 64 → field_text default_writer (decimal n) ≡ decimal n
plain_number n h = cond-false _ _ _ (plain_digits (decimal n) (decimal_is_IsNumeral n h).0.1)

-- four fields and the commas between them
four : List ℕ → List ℕ → List ℕ → List ℕ → List ℕ
four a b c d = (a ++ 44 ∷ (b ++ 44 ∷ (c ++ 44 ∷ (d ++ [])))) ++ 10 ∷ []

-- the four with their commas, joined from the right
four_joined : (a b c d : List ℕ) → four a b c d ≡ a ++ 44 ∷ (b ++ 44 ∷ (c ++ 44 ∷ (d ++ 10 ∷ [])))
unfolding four
four_joined a b c d = simp (append_assoc, append-nil)

-- the record of an amount is its line
pub row_is : (r : SpentRow) → r.vid < 2 ^ 64 → r.day < 2 ^ 64 → r.xway < 2 ^ 64 → r.tolls < 2 ^ 64 →
    row_text default_writer (decimal r.vid ∷ decimal r.day ∷ decimal r.xway ∷ decimal r.tolls ∷ []) ≡ export_line r
unfolding fields_text is_blank four
row_is r v d x t =
    let vid = plain_number r.vid v in
    let day = plain_number r.day d in
    let xway = plain_number r.xway x in
    let tolls = plain_number r.tolls t in
    ap (λ a. four a (field_text default_writer (decimal r.day)) (field_text default_writer (decimal r.xway))
    (field_text default_writer (decimal r.tolls))) vid
    ∙ ap (λ b. four (decimal r.vid) b (field_text default_writer (decimal r.xway))
    (field_text default_writer (decimal r.tolls))) day
    ∙ ap (λ c. four (decimal r.vid) (decimal r.day) c (field_text default_writer (decimal r.tolls))) xway
    ∙ ap (λ e. four (decimal r.vid) (decimal r.day) (decimal r.xway) e) tolls
    ∙ four_joined (decimal r.vid) (decimal r.day) (decimal r.xway) (decimal r.tolls)

-- the line that names the columns
pub head_is : row_text default_writer (codes "vid" ∷ codes "day" ∷ codes "xway" ∷ codes "tolls" ∷ [])
    ≡ codes "vid,day,xway,tolls\n"
unfolding fields_text is_blank
head_is = refl
