-- Laws of a field without a sign, which ends at a comma.
use Rattle.std.proofs.Common.{◌≡◌, ℕ, ◌+◌, ◌<◌, ◌≤◌, ◌==◌, true, not, cond, List, [], ◌∷◌, length, take, drop, get_or}
use Rattle.std.proofs.Common.{Some, None, Ok, ℤ, pos, negsuc, ◌++◌, inl, inr, subst, refl, sym, ap, ◌∙◌, arith}
use Rattle.std.specs.List.{list_all, cons_option, filter_map}
use Rattle.std.proofs.lemmas.Bool.{cond-true, cond-false, and_from, le-leb, ne_eqb, cases_lt}
use Rattle.std.proofs.lemmas.List.{length-take-le, length-take, length-drop, get_or-drop, get_or-take, get_or_past}
use Rattle.std.proofs.lemmas.List.{drop-drop, drop_more, drop_all, take-append-drop}
use Rattle.std.proofs.lemmas.Nat.{le_bytes_8}
use Rattle.std.specs.Int.{w64, from_le_bytes}
use Rattle.std.specs.Prelude.{is_none}
use Rattle.std.specs.Str.Parse.{digits_value, AllDigits}
use Rattle.std.proofs.lemmas.Str.Parse.{digit_from_value}
use Rattle.road_time.specs.Numbers.{number_of, fields_of_text}
use Rattle.road_time.specs.Form.{Use, From, Unused, ReportLine, uses_of, first_odd, first_out, form, of_fields}
use Rattle.road_time.specs.Form.{of_numbers, in_ranges}
use Rattle.road_time.specs.declared.road.Tuple.TheVariants.{Report as ReportTuple}
use Rattle.tuples_text.specs.Fields.{IsField, odd_from, unused_text}
use Rattle.tuples_text.proofs.TextLaws.{is_inner, fields_cut, form_of_fields, are_all}

-- digits have no comma
pub digits_inner : (bs : List ℕ) → AllDigits 10 bs → list_all is_inner bs ≡ true
digits_inner [] e = refl
digits_inner (b ∷ bs) e =
    let digit = digit_from_value b e.0 in
    and_from _ _ (ap not (ne_eqb b 44 (λ is. omega (arith, digit)))) (digits_inner bs e.1)

-- digits are a number
pub number_of-digits : (bs : List ℕ) → 1 ≤ length bs → length bs ≤ 10 → AllDigits 10 bs →
    number_of 10 bs ≡ Some (pos (digits_value 10 bs))
number_of-digits [] h k e = absurd (omega arith)
number_of-digits (b ∷ bs) h k e =
    let digit = digit_from_value b e.0 in
    cond-false (b == 45) _ _ (ne_eqb b 45 (λ is. omega (arith, digit))) ∙ cond-true _ _ _ (are_all (b ∷ bs) e h k)

-- the first field of a text, where digits and a comma stand at its head
pub field_at : (xs : List ℕ) (i value : ℕ) → 1 ≤ i → i ≤ 10 → i < length xs → AllDigits 10 (take i xs) →
    get_or xs i 0 ≡ 44 → value ≡ digits_value 10 (take i xs) → IsField xs value (drop (i + 1) xs)
field_at xs i value some few h are comma is =
    let ds = take i xs in
    let rest = drop (i + 1) xs in
    let long = length-take-le i xs (omega arith) in
    let cut = fields_cut xs i h (digits_inner ds are) comma in
    let number = number_of-digits ds (omega arith) (omega arith) are ∙ ap (λ v. Some (pos v)) (sym is) in
    record {
      count = omega (arith, ap length cut);
      odd = λ n. ap (odd_from n) cut
          ∙ ap (λ o. cond (is_none o) (Some n) (odd_from (n + 1) (fields_of_text rest))) number;
      numbers = ap (filter_map (number_of 10)) cut
          ∙ ap (λ o. cons_option o (filter_map (number_of 10) (fields_of_text rest))) number;
    }

-- ---- the ranges of a report
pub in_range : (us : List Use) (zs : List ℤ) (n low high v : ℕ) → low ≤ v → v ≤ high →
    first_out n (From low high ∷ us) (pos v ∷ zs) ≡ first_out (n + 1) us zs
in_range us zs n low high v l h = cond-false _ _ _ (ap not (and_from _ _ (le-leb low v l) (le-leb v high h)))

-- six fields that are not used
abbrev pub none_used : List ℤ
none_used = negsuc 0 ∷ negsuc 0 ∷ negsuc 0 ∷ negsuc 0 ∷ negsuc 0 ∷ negsuc 0 ∷ []

-- the numbers of a report are in their ranges
pub report_in_range : (time vid spd xway lane dir seg at : ℕ) → time ≤ 86399 → vid ≤ 2147483647 → spd ≤ 100 → xway ≤ 255
    → lane ≤ 4 → dir ≤ 1 → seg ≤ 99 → at ≤ 527999 → first_out 2 (uses_of ReportLine)
    (pos time ∷ pos vid ∷ pos spd ∷ pos xway ∷ pos lane ∷ pos dir ∷ pos seg ∷ pos at ∷ none_used) ≡ None
report_in_range time vid spd xway lane dir seg at ht hv hs hx hl hd hg hp =
    let u8 = Unused ∷ Unused ∷ Unused ∷ Unused ∷ Unused ∷ Unused ∷ [] in
    let u7 = From 0 527999 ∷ u8 in
    let u6 = From 0 99 ∷ u7 in
    let u5 = From 0 1 ∷ u6 in
    let u4 = From 0 4 ∷ u5 in
    let u3 = From 0 255 ∷ u4 in
    let u2 = From 0 100 ∷ u3 in
    let u1 = From 0 2147483647 ∷ u2 in
    let z7 = pos at ∷ none_used in
    let z6 = pos seg ∷ z7 in
    let z5 = pos dir ∷ z6 in
    let z4 = pos lane ∷ z5 in
    let z3 = pos xway ∷ z4 in
    let z2 = pos spd ∷ z3 in
    let z1 = pos vid ∷ z2 in
    in_range u1 z1 2 0 86399 time (omega arith) ht
    ∙ in_range u2 z2 3 0 2147483647 vid (omega arith) hv
    ∙ in_range u3 z3 4 0 100 spd (omega arith) hs
    ∙ in_range u4 z4 5 0 255 xway (omega arith) hx
    ∙ in_range u5 z5 6 0 4 lane (omega arith) hl
    ∙ in_range u6 z6 7 0 1 dir (omega arith) hd
    ∙ in_range u7 z7 8 0 99 seg (omega arith) hg
    ∙ in_range u8 none_used 9 0 527999 at (omega arith) hp

-- a text of nine fields without a sign, and six that are not used
pub plain_form : (x0 x1 x2 x3 x4 x5 x6 x7 x8 x9 : List ℕ) (kind time vid spd xway lane dir seg at : ℕ) →
    IsField x0 kind x1 → IsField x1 time x2 → IsField x2 vid x3 → IsField x3 spd x4 → IsField x4 xway x5 →
    IsField x5 lane x6 → IsField x6 dir x7 → IsField x7 seg x8 → IsField x8 at x9 → x9 ≡ unused_text → kind ≡ 0
    → time ≤ 86399 → vid ≤ 2147483647 → spd ≤ 100 → xway ≤ 255 → lane ≤ 4 → dir ≤ 1 → seg ≤ 99 → at ≤ 527999
    → form x0
    ≡ Ok (Some
    (ReportTuple
    (record { time = time; vid = vid; spd = spd; xway = xway; lane = lane; dir = dir; seg = seg; pos = at })))
plain_form x0 x1 x2 x3 x4 x5 x6 x7 x8 x9 kind time vid spd xway lane dir seg at f0 f1 f2 f3 f4 f5 f6 f7 f8 end zero ht
    hv hs hx hl hd hg hp =
    let six = ap (λ x. length (fields_of_text x)) end in
    let count : length (fields_of_text x0) ≡ 15 =
    omega (arith, f0.count, f1.count, f2.count, f3.count, f4.count, f5.count, f6.count, f7.count, f8.count, six) in
    let zs = pos time ∷ pos vid ∷ pos spd ∷ pos xway ∷ pos lane ∷ pos dir ∷ pos seg ∷ pos at ∷ none_used in
    let none : first_odd (fields_of_text x0) ≡ None =
    f0.odd 1 ∙ f1.odd 2 ∙ f2.odd 3 ∙ f3.odd 4 ∙ f4.odd 5 ∙ f5.odd 6 ∙ f6.odd 7 ∙ f7.odd 8 ∙ f8.odd 9
    ∙ ap (λ x. odd_from 10 (fields_of_text x)) end in
    let n8 = f8.numbers ∙ ap (λ x. pos at ∷ filter_map (number_of 10) (fields_of_text x)) end in
    let n7 = f7.numbers ∙ ap (λ ys. pos seg ∷ ys) n8 in
    let n6 = f6.numbers ∙ ap (λ ys. pos dir ∷ ys) n7 in
    let n5 = f5.numbers ∙ ap (λ ys. pos lane ∷ ys) n6 in
    let n4 = f4.numbers ∙ ap (λ ys. pos xway ∷ ys) n5 in
    let n3 = f3.numbers ∙ ap (λ ys. pos spd ∷ ys) n4 in
    let n2 = f2.numbers ∙ ap (λ ys. pos vid ∷ ys) n3 in
    let n1 = f1.numbers ∙ ap (λ ys. pos time ∷ ys) n2 in
    let n0 = f0.numbers ∙ ap (λ ys. pos kind ∷ ys) n1 in
    form_of_fields x0 count ∙ ap (of_fields (fields_of_text x0)) none ∙ ap of_numbers n0
    ∙ ap (λ t. of_numbers (pos t ∷ zs)) zero
    ∙ ap (in_ranges ReportLine zs) (report_in_range time vid spd xway lane dir seg at ht hv hs hx hl hd hg hp)

-- ---- the unused fields, by numbers of eight bytes
pub fits_taken : (xs : List ℕ) (n : ℕ) → ((i : ℕ) → get_or xs i 0 < 256) → (i : ℕ) → get_or (take n xs) i 0 < 256
fits_taken xs n fits i =
    elim (cases_lt i n) [
      | inl h ↦ subst (λ v. v < 256) (sym (get_or-take n xs i 0 h)) (fits i)
      | inr h ↦ subst (λ v. v < 256) (sym (get_or_past (take n xs) i 0 (omega (arith, length-take n xs)))) (omega arith)
    ]

-- seventeen bytes of two such numbers and a last 1 are the six fields of -1
pub unused_is : (xs : List ℕ) → length xs ≡ 17 → ((i : ℕ) → get_or xs i 0 < 256) →
    from_le_bytes w64 (take 8 xs) ≡ 3543537071533338925 → from_le_bytes w64 (take 8 (drop 8 xs)) ≡ 3255030700766735660 →
    get_or xs 16 0 ≡ 49 → xs ≡ unused_text
unused_is xs long fits front back last =
    let size = length-drop 8 xs in
    let one : take 8 xs ≡ 45 ∷ 49 ∷ 44 ∷ 45 ∷ 49 ∷ 44 ∷ 45 ∷ 49 ∷ [] =
    sym (le_bytes_8 (take 8 xs) 3543537071533338925 (length-take-le 8 xs (omega arith)) (fits_taken xs 8 fits)
    (sym front)) in
    let two : take 8 (drop 8 xs) ≡ 44 ∷ 45 ∷ 49 ∷ 44 ∷ 45 ∷ 49 ∷ 44 ∷ 45 ∷ [] =
    sym (le_bytes_8 (take 8 (drop 8 xs)) 3255030700766735660 (length-take-le 8 (drop 8 xs) (omega arith))
    (fits_taken (drop 8 xs) 8 (λ i. subst (λ n. n < 256) (sym (get_or-drop 8 xs i 0)) (fits (8 + i))))
    (sym back)) in
    let three : drop 8 (drop 8 xs) ≡ 49 ∷ [] =
    drop-drop 8 8 xs ∙ drop_more xs 16 0 (omega arith) ∙ ap (λ n. n ∷ drop 17 xs) last
    ∙ ap (λ ys. 49 ∷ ys) (drop_all 17 xs (omega arith)) in
    sym (take-append-drop 8 xs) ∙ ap (λ ys. ys ++ drop 8 xs) one
    ∙ ap (λ ys. (45 ∷ 49 ∷ 44 ∷ 45 ∷ 49 ∷ 44 ∷ 45 ∷ 49 ∷ []) ++ ys)
    (sym (take-append-drop 8 (drop 8 xs)) ∙ ap (λ ys. ys ++ drop 8 (drop 8 xs)) two
    ∙ ap (λ ys. (44 ∷ 45 ∷ 49 ∷ 44 ∷ 45 ∷ 49 ∷ 44 ∷ 45 ∷ []) ++ ys) three)
