-- How many lines parts of the bytes have.
use Rattle.std.proofs.Common.{◌≡◌, ℕ, ◌+◌, ◌≤◌, ◌==◌, true, false, List, [], ◌∷◌, ◌++◌, length, take, drop, refl, sym}
use Rattle.std.proofs.Common.{ap, ◌∙◌, arith}
use Rattle.std.specs.List.{onto_first}
use Rattle.std.proofs.Math.Logic.{⊎_elim}
use Rattle.std.proofs.lemmas.Bool.{cond-true, cond-false, cases_Bool}
use Rattle.std.proofs.lemmas.List.{take-append-drop, take-append-le}
use Rattle.road_time.specs.Lines.{lines_of}

-- what a byte does to the lines behind it
line_end : (b : ℕ) (bs : List ℕ) → (b == 10) ≡ true → lines_of (b ∷ bs) ≡ [] ∷ lines_of bs
line_end b bs e = cond-true (b == 10) _ _ e

line_byte : (b : ℕ) (bs : List ℕ) → (b == 10) ≡ false → lines_of (b ∷ bs) ≡ onto_first b (lines_of bs)
line_byte b bs e = cond-false (b == 10) _ _ e

-- a byte before lines makes no more of them than one
onto_more : (b : ℕ) (few many : List (List ℕ)) → length few ≤ length many →
    length (onto_first b few) ≤ length (onto_first b many)
onto_more b [] [] h = omega arith
onto_more b [] (m ∷ ms) h = omega arith
onto_more b (l ∷ ls) [] h = absurd (omega arith)
onto_more b (l ∷ ls) (m ∷ ms) h = h

-- nor fewer
onto_less : (b : ℕ) (ls : List (List ℕ)) → length ls ≤ length (onto_first b ls)
onto_less b [] = omega arith
onto_less b (l ∷ ls) = omega arith

-- one before lines that are at most some others and n more
onto_sum : (b n : ℕ) (all some : List (List ℕ)) → length all ≤ length some + n →
    length (onto_first b all) ≤ length (onto_first b some) + n
onto_sum b n [] [] h = omega arith
onto_sum b n [] (m ∷ ms) h = omega arith
onto_sum b n (l ∷ ls) [] h = omega arith
onto_sum b n (l ∷ ls) (m ∷ ms) h = h

-- a front has no more lines
pub lines_front : (xs ys : List ℕ) → length (lines_of xs) ≤ length (lines_of (xs ++ ys))
lines_front [] ys = omega arith
lines_front (b ∷ xs) ys =
    let rest = lines_front xs ys in
    ⊎_elim
    (λ (e : (b == 10) ≡ true). omega (arith, ap length (line_end b xs e), ap length (line_end b (xs ++ ys) e), rest))
    (λ (e : (b == 10) ≡ false). omega (
      arith,
      ap length (line_byte b xs e),
      ap length (line_byte b (xs ++ ys) e),
      onto_more b (lines_of xs)
          (lines_of (xs ++ ys)) rest,
    ))
    (cases_Bool (b == 10))

-- two parts have together no more lines than each
pub lines_sum : (xs ys : List ℕ) → length (lines_of (xs ++ ys)) ≤ length (lines_of xs) + length (lines_of ys)
lines_sum [] ys = omega arith
lines_sum (b ∷ xs) ys =
    let rest = lines_sum xs ys in
    ⊎_elim
    (λ (e : (b == 10) ≡ true). omega (arith, ap length (line_end b xs e), ap length (line_end b (xs ++ ys) e), rest))
    (λ (e : (b == 10) ≡ false). omega (
      arith,
      ap length (line_byte b xs e),
      ap length (line_byte b (xs ++ ys) e),
      onto_sum b (length (lines_of ys))
          (lines_of (xs ++ ys)) (lines_of xs) rest,
    ))
    (cases_Bool (b == 10))

-- the bytes of lines, each with an end
abbrev weight : List (List ℕ) → ℕ
weight [] = 0
weight (l ∷ ls) = length l + 1 + weight ls

-- a byte makes a line
onto_one : (b : ℕ) (ls : List (List ℕ)) → 1 ≤ length (onto_first b ls)
onto_one b [] = omega arith
onto_one b (l ∷ ls) = omega arith

lines_some : (b : ℕ) (bs : List ℕ) → 1 ≤ length (lines_of (b ∷ bs))
lines_some b bs = ⊎_elim
    (λ (e : (b == 10) ≡ true). omega (arith, ap length (line_end b bs e)))
    (λ (e : (b == 10) ≡ false). omega (arith, ap length (line_byte b bs e), onto_one b (lines_of bs)))
    (cases_Bool (b == 10))

lines_behind : (xs : List ℕ) (c : ℕ) (cs : List ℕ) → 1 ≤ length (lines_of (xs ++ c ∷ cs))
lines_behind [] c cs = lines_some c cs
lines_behind (x ∷ xs) c cs = lines_some x (xs ++ c ∷ cs)

onto_weight : (b : ℕ) (ls : List (List ℕ)) → 1 ≤ length ls → weight (onto_first b ls) ≡ weight ls + 1
onto_weight b [] h = absurd (omega arith)
onto_weight b (l ∷ ls) h = omega arith

-- bytes before others weigh what they are
weight_more : (v : List ℕ) (c : ℕ) (cs : List ℕ) →
    weight (lines_of (v ++ c ∷ cs)) ≡ length v + weight (lines_of (c ∷ cs))
weight_more [] c cs = omega arith
weight_more (b ∷ v) c cs =
    let rest = weight_more v c cs in
    ⊎_elim
    (λ (e : (b == 10) ≡ true). omega (arith, ap weight (line_end b (v ++ c ∷ cs) e), rest))
    (λ (e : (b == 10) ≡ false). omega (
      arith,
      ap weight (line_byte b (v ++ c ∷ cs) e),
      onto_weight b (lines_of (v ++ c ∷ cs)) (lines_behind v c cs),
      rest,
    ))
    (cases_Bool (b == 10))

-- bytes before others that leave their lines as they are are none
same_lines : (v after : List ℕ) → lines_of (v ++ after) ≡ lines_of after → length v ≡ 0
same_lines [] after e = refl
same_lines (b ∷ v) [] e = absurd (omega (arith, ap length e, lines_some b (v ++ [])))
same_lines (b ∷ v) (c ∷ cs) e = omega (arith, ap weight e, weight_more (b ∷ v) c cs)

-- nothing is what has no length
pub none_long : (v : List ℕ) → length v ≡ 0 → v ≡ []
none_long [] e = refl
none_long (b ∷ v) e = absurd (omega (arith, e))

tail_same : (l m : List ℕ) (ls ms : List (List ℕ)) → ◌≡◌ {A = List (List ℕ)} (l ∷ ls) (m ∷ ms) → ls ≡ ms
tail_same l m ls ms e = cc

one_byte : (b : ℕ) → length (lines_of (b ∷ [])) ≤ 1
one_byte b = ⊎_elim
    (λ (e : (b == 10) ≡ true). omega (arith, ap length (line_end b [] e)))
    (λ (e : (b == 10) ≡ false). omega (arith, ap length (line_byte b [] e)))
    (cases_Bool (b == 10))

onto_tail : (b : ℕ) (line : List ℕ) (ls ms : List (List ℕ)) → 1 ≤ length ls → onto_first b ls ≡ line ∷ ms →
    (first : List ℕ) × (ls ≡ first ∷ ms)
onto_tail b line [] ms h e = absurd (omega arith)
onto_tail b line (l ∷ ls) ms h e = (l, ap (λ rest. l ∷ rest) (tail_same (b ∷ l) line ls ms e))

onto_few : (b : ℕ) (ls : List (List ℕ)) → length ls ≤ 1 → length (onto_first b ls) ≤ 1
onto_few b [] h = omega arith
onto_few b (l ∷ ls) h = h

-- where the bytes behind some have all lines but the first, those are one line at most
pub one_line : (rest after line : List ℕ) → lines_of (rest ++ after) ≡ line ∷ lines_of after →
    length (lines_of rest) ≤ 1
one_line [] after line e = omega arith
one_line (b ∷ []) after line e = one_byte b
one_line (b ∷ d ∷ rest) after line e = ⊎_elim
    (λ (end : (b == 10) ≡ true). absurd
    (omega (
      arith,
      same_lines (d ∷ rest) after
          (tail_same [] line _ _ (sym (line_end b (d ∷ rest ++ after) end) ∙ e)),
    )))
    (λ (text : (b == 10) ≡ false). (
    let t = onto_tail b line (lines_of (d ∷ rest ++ after)) (lines_of after) (lines_some d (rest ++ after))
    (sym (line_byte b (d ∷ rest ++ after) text) ∙ e) in
    omega (
      arith,
      ap length (line_byte b (d ∷ rest) text),
      onto_few b (lines_of (d ∷ rest))
          (one_line (d ∷ rest) after t.0 t.1),
    )))
    (cases_Bool (b == 10))

-- a shorter front has no more lines
pub lines_take : (k : ℕ) (xs ys : List ℕ) → k ≤ length xs → length (lines_of (take k (xs ++ ys))) ≤ length (lines_of xs)
lines_take k xs ys h =
    omega (
      arith,
      ap (λ zs. length (lines_of zs)) (take-append-le k xs ys h),
      lines_front (take k xs) (drop k xs),
      ap
          (λ zs. length (lines_of zs)) (take-append-drop k xs),
    )
