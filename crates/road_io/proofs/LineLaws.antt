-- Laws of cutting bytes into lines.
use Rattle.std.proofs.Common.{◌≡◌, ℕ, min, ◌+◌, ◌-◌, ◌<◌, ◌≤◌, ◌==◌, Bool, true, not, List, [], ◌∷◌, ◌++◌, length, take}
use Rattle.std.proofs.Common.{drop, get_or, Option, Some, None, Ok, refl, sym, ap, subst, ◌∙◌, arith, append_assoc}
use Rattle.std.proofs.Common.{zero, suc}
use Rattle.std.specs.List.{list_all, onto_first, slice_range}
use Rattle.std.specs.Io.KnownBytes.{Keeps, Consumes, prepend_known}
use Rattle.std.proofs.lemmas.Bool.{cond-false, and_parts, and_from, not-true, false_from_ne_true}
use Rattle.std.proofs.lemmas.List.{take-append-drop, drop_more, length-take-le, length-take, get_or-take, take_all}
use Rattle.std.proofs.lemmas.List.{take-take, drop-drop, drop-take}
use Rattle.std.proofs.lemmas.List.Folds.{list_all_more}
use Rattle.road_time.specs.Lines.{lines_of}
use Rattle.road_io.specs.Cutter.{FirstHas, Cuts}

-- a text is what lies before a place, the byte there, and what comes after it
pub cut_at : (xs : List ℕ) (i b : ℕ) → i < length xs → get_or xs i 0 ≡ b → xs ≡ take i xs ++ b ∷ drop (i + 1) xs
cut_at xs i b h e =
    sym (take-append-drop i xs) ∙ ap (λ ys. take i xs ++ ys) (drop_more xs i 0 h ∙ ap (λ y. y ∷ drop (i + 1) xs) e)

-- a byte that ends no line
abbrev pub is_text : ℕ → Bool
is_text b = not (b == 10)

pub lines_cut : (p more : List ℕ) → list_all is_text p ≡ true → lines_of (p ++ 10 ∷ more) ≡ p ∷ lines_of more
lines_cut [] more e = refl
lines_cut (b ∷ p) more e =
    let parts = and_parts (is_text b) (list_all is_text p) e in
    cond-false (b == 10) _ _ (not-true _ parts.0) ∙ ap (onto_first b) (lines_cut p more parts.1)

pub lines_text : (p : List ℕ) → list_all is_text p ≡ true → 0 < length p → lines_of p ≡ p ∷ []
lines_text [] e h = absurd (omega arith)
lines_text (b ∷ []) e h = cond-false (b == 10) _ _ (not-true _ (and_parts (is_text b) true e).0)
lines_text (b ∷ c ∷ p) e h =
    let parts = and_parts (is_text b) (list_all is_text (c ∷ p)) e in
    cond-false (b == 10) _ _ (not-true _ parts.0) ∙ ap (onto_first b) (lines_text (c ∷ p) parts.1 (omega arith))

pub FirstHas-onto : (n b : ℕ) (ls : List (List ℕ)) → FirstHas n ls → FirstHas (n + 1) (onto_first b ls)
FirstHas-onto n b [] h = absurd h
FirstHas-onto n b (l ∷ ls) h = omega arith

pub FirstHas-one : (b : ℕ) (ls : List (List ℕ)) → FirstHas 1 (onto_first b ls)
FirstHas-one b [] = omega arith
FirstHas-one b (l ∷ ls) = omega arith

-- a text of n bytes without LF makes the first line as long at least
pub FirstHas-text : (p more : List ℕ) → list_all is_text p ≡ true → 0 < length p →
    FirstHas (length p) (lines_of (p ++ more))
FirstHas-text [] more e h = absurd (omega arith)
FirstHas-text (b ∷ []) more e h =
    let step : lines_of (b ∷ more) ≡ onto_first b (lines_of more) =
    cond-false (b == 10) _ _ (not-true _ (and_parts (is_text b) true e).0) in
    subst (λ ls. FirstHas 1 ls) (sym step) (FirstHas-one b (lines_of more))
FirstHas-text (b ∷ c ∷ p) more e h =
    let parts = and_parts (is_text b) (list_all is_text (c ∷ p)) e in
    let step : lines_of (b ∷ c ∷ (p ++ more)) ≡ onto_first b (lines_of (c ∷ (p ++ more))) =
    cond-false (b == 10) _ _ (not-true _ parts.0) in
    let more_one : length (c ∷ p) + 1 ≡ length (b ∷ c ∷ p) = omega arith in
    subst (λ n. FirstHas n (lines_of (b ∷ c ∷ (p ++ more)))) more_one
    (subst (λ ls. FirstHas (length (c ∷ p) + 1) ls) (sym step)
    (FirstHas-onto (length (c ∷ p)) b _ (FirstHas-text (c ∷ p) more parts.1 (omega arith))))

pub FirstHas-less : (m n : ℕ) (ls : List (List ℕ)) → m ≤ n → FirstHas n ls → FirstHas m ls
FirstHas-less m n [] le h = h
FirstHas-less m n (l ∷ ls) le h = omega arith

-- no LF below n
pub text_below : (xs : List ℕ) (n : ℕ) → n ≤ length xs → ((k : ℕ) → 0 ≤ k → k < n → (get_or xs k 0 == 10) ≡ true → ⊥) →
    list_all is_text (take n xs) ≡ true
text_below xs zero h absent = refl
text_below xs (suc n) h absent =
    let below = text_below xs n (omega arith) (λ k l m. absent k l (omega arith)) in
    let here : is_text (get_or xs n 0) ≡ true =
    ap not (false_from_ne_true _ (λ e. absent n (omega arith) (omega arith) e)) in
    let one : n + 1 ≡ suc n = omega arith in
    subst (λ m. list_all is_text (take m xs) ≡ true) one
    (list_all_more is_text xs n 0 (omega arith) ∙ and_from _ _ below here)

pub cut_lines : (xs more : List ℕ) (k : ℕ) → k < length xs → list_all is_text (take k xs) ≡ true → get_or xs k 0 ≡ 10 →
    lines_of (xs ++ more) ≡ take k xs ∷ lines_of (drop (k + 1) xs ++ more)
cut_lines xs more k h e is =
    ap (λ ys. lines_of (ys ++ more)) (cut_at xs k 10 h is)
    ∙ ap lines_of (append_assoc (take k xs) (10 ∷ drop (k + 1) xs) more)
    ∙ lines_cut (take k xs) (drop (k + 1) xs ++ more) e

pub long_lines : (xs more : List ℕ) (n : ℕ) → 201 ≤ n → n ≤ length xs → list_all is_text (take n xs) ≡ true →
    FirstHas 201 (lines_of (xs ++ more))
long_lines xs more n l h e =
    let p = take n xs in
    let size = length-take-le n xs h in
    let split = ap (λ ys. ys ++ more) (sym (take-append-drop n xs)) ∙ append_assoc p (drop n xs) more in
    subst (λ ys. FirstHas 201 (lines_of ys)) (sym split)
    (FirstHas-less 201 (length p) _ (omega arith) (FirstHas-text p (drop n xs ++ more) e (omega arith)))

-- ---- parts of the buffer
pub range_front : (bs : List ℕ) (s e k : ℕ) → s + k ≤ e → slice_range bs s (s + k) ≡ take k (slice_range bs s e)
range_front bs s e k h =
    let size : s + k - s ≡ k = omega arith in
    ap (λ n. take n (drop s bs)) size ∙ sym (take-take k (e - s) (drop s bs) (omega arith))

pub range_rest : (bs : List ℕ) (s e j : ℕ) → s + j ≤ e → slice_range bs (s + j) e ≡ drop j (slice_range bs s e)
range_rest bs s e j h =
    let size : j + (e - (s + j)) ≡ e - s = omega arith in
    ap (λ ys. take (e - (s + j)) ys) (sym (drop-drop j s bs)) ∙ sym (drop-take j (e - (s + j)) (drop s bs))
    ∙ ap (λ n. drop j (take n (drop s bs))) size

pub take_sum : (xs : List ℕ) (a b : ℕ) → a ≤ length xs → take (a + b) xs ≡ take a xs ++ take b (drop a xs)
take_sum xs a b h =
    sym (take-append-drop a (take (a + b) xs))
    ∙ ap (λ ys. ys ++ drop a (take (a + b) xs)) (take-take a (a + b) xs (omega arith))
    ∙ ap (λ ys. take a xs ++ ys) (drop-take a b xs)

-- ---- the bytes ahead
pub keeps_more : (h t now : List ℕ) (before after : Option (List ℕ)) → Consumes before after t → now ≡ h ++ t →
    Keeps (prepend_known h before) (prepend_known now after)
keeps_more h t now None after c e = tt
keeps_more h t now (Some xs) None c e = absurd c
keeps_more h t now (Some xs) (Some ys) c e = ap (λ z. z ++ ys) e ∙ append_assoc h t ys ∙ ap (λ z. h ++ z) (sym c)

-- an answer over the bytes that lie ahead now is one over those that lay ahead

pub cuts_line : (h : List ℕ) (k : ℕ) (left : Option (List ℕ)) (line rest : List ℕ) →
    ((more : List ℕ) → lines_of (h ++ more) ≡ take k h ∷ lines_of (drop (k + 1) h ++ more)) → line ≡ take k h →
    rest ≡ drop (k + 1) h → Cuts (Ok true) (prepend_known h left) (prepend_known rest left) line
cuts_line h k None line rest law is then = tt
cuts_line h k (Some xs) line rest law is then = law xs ∙ ap (λ l. l ∷ lines_of (drop (k + 1) h ++ xs)) (sym is)
    ∙ ap (λ ys. line ∷ lines_of (ys ++ xs)) (sym then)

-- ---- what the search of the first 201 bytes tells
abbrev pub AbsentBelow : List ℕ → ℕ → Type 0
AbsentBelow w n = (k : ℕ) → 0 ≤ k → k < n → (get_or w k 0 == 10) ≡ true → ⊥

pub found_cut : (xs w : List ℕ) (k : ℕ) → w ≡ take 201 xs → k < length w → AbsentBelow w k → get_or w k 0 ≡ 10 →
    (k ≤ 200) × (k < length xs)
    × ((more : List ℕ) → lines_of (xs ++ more) ≡ take k xs ∷ lines_of (drop (k + 1) xs ++ more))
found_cut xs w k e h absent is =
    let size : length w ≡ min 201 (length xs) = ap length e ∙ length-take 201 xs in
    let text = text_below w k (omega arith) absent in
    let front : take k w ≡ take k xs = ap (take k) e ∙ take-take k 201 xs (omega arith) in
    let at : get_or xs k 0 ≡ 10 = sym (get_or-take 201 xs k 0 (omega arith)) ∙ ap (λ l. get_or l k 0) (sym e) ∙ is in
    (omega arith, omega arith, λ more. cut_lines xs more k (omega arith) (ap (list_all is_text) (sym front) ∙ text) at)

pub whole_text : (xs w : List ℕ) → w ≡ take 201 xs → AbsentBelow w (length w) → list_all is_text (take 201 xs) ≡ true
whole_text xs w e absent =
    ap (list_all is_text) (sym e ∙ sym (take_all (length w) w (omega arith)))
    ∙ text_below w (length w) (omega arith) absent

pub absent_long : (xs w : List ℕ) → w ≡ take 201 xs → AbsentBelow w (length w) → 200 < length xs → (more : List ℕ) →
    FirstHas 201 (lines_of (xs ++ more))
absent_long xs w e absent h more = long_lines xs more 201 (omega arith) (omega arith) (whole_text xs w e absent)

pub absent_short : (xs w : List ℕ) → w ≡ take 201 xs → AbsentBelow w (length w) → length xs ≤ 200 → 0 < length xs →
    lines_of xs ≡ xs ∷ []
absent_short xs w e absent h some =
    lines_text xs (ap (list_all is_text) (sym (take_all 201 xs (omega arith))) ∙ whole_text xs w e absent) some

pub line_taken : (bs items : List ℕ) (s e k : ℕ) (left : Option (List ℕ)) → bs ≡ items → k < length (slice_range bs s e)
    → ((more : List ℕ) → lines_of (slice_range bs s e ++ more) ≡ take k (slice_range bs s e) ∷ lines_of
    (drop (k + 1) (slice_range bs s e) ++ more)) →
    Cuts (Ok true) (prepend_known (slice_range items s e) left) (prepend_known (slice_range items (s + k + 1) e) left)
    (slice_range items s (s + k))
line_taken bs items s e k left same h law =
    let room = length-take (e - s) (drop s bs) in
    let next : s + k + 1 ≡ s + (k + 1) = omega arith in
    cuts_line (slice_range items s e) k left (slice_range items s (s + k)) (slice_range items (s + k + 1) e)
    (subst (λ b. (more : List ℕ) → lines_of (slice_range b s e ++ more) ≡ take k (slice_range b s e) ∷ lines_of
    (drop (k + 1) (slice_range b s e) ++ more)) same law)
    (range_front items s e k (omega arith))
    (ap (λ m. slice_range items m e) next ∙ range_rest items s e (k + 1) (omega arith))

-- ---- the bytes that a line took

pub taken_of : (h t rest : List ℕ) (left : Option (List ℕ)) → h ≡ t ++ rest →
    Consumes (prepend_known h left) (prepend_known rest left) t
taken_of h t rest None e = tt
taken_of h t rest (Some xs) e = ap (λ ys. ys ++ xs) e ∙ append_assoc t rest xs

pub range_split : (bs : List ℕ) (s m e : ℕ) → s ≤ m → m ≤ e →
    slice_range bs s e ≡ slice_range bs s m ++ slice_range bs m e
range_split bs s m e h k =
    let whole : s + (m - s) ≡ m = omega arith in
    let first = ap (λ n. slice_range bs s n) whole in
    let last = ap (λ n. slice_range bs n e) whole in
    sym (take-append-drop (m - s) (slice_range bs s e))
    ∙ ap (λ ys. ys ++ drop (m - s) (slice_range bs s e)) (sym (range_front bs s e (m - s) (omega arith)) ∙ first)
    ∙ ap (λ ys. slice_range bs s m ++ ys) (sym (range_rest bs s e (m - s) (omega arith)) ∙ last)
