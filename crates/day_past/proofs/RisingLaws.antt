-- Rows in order, with one more.
use Rattle.std.proofs.Common.{◌≡◌, ℕ, ◌==◌, ◌<◌, ◌&&◌, ◌||◌, nat_lt, Bool, true, false, cond, List, [], ◌∷◌, ◌++◌}
use Rattle.std.proofs.Common.{Option, Some, None, length, take, get_or, suc, zero, refl, sym, ap, subst, ◌∙◌, arith}
use Rattle.std.specs.Prelude.{is_some}
use Rattle.std.specs.List.{AllByRecursion, filter, fold, list_any}
use Rattle.std.specs.List.Sorted.{IsStrictlySortedBy}
use Rattle.std.specs.declared.cmp.Ordering.{Ordering}
use Rattle.std.specs.declared.cmp.Ordering.TheVariants.{Less, Equal, Greater}
use Rattle.std.specs.Ordering.{nat_cmp, ordering_then, ordering_reverse, match_ordering}
use Rattle.std.specs.FinMap.{nat_cmp-IsAntisymmetric}
use Rattle.std.proofs.lemmas.Bool.{cond_both, cond-true, cond-false}
use Rattle.std.proofs.lemmas.List.Sums.{fold-append}
use Rattle.std.proofs.lemmas.List.Elements.{filter-append}
use Rattle.road_time.specs.declared.day.SpentRow.{SpentRow}
use Rattle.road_time.proofs.EachLaws as each
use Rattle.road_time.specs.History.{is_row}
use Rattle.keep_office.specs.Office.{row_cmp, RowsRise}
use Rattle.keep_office.specs.PastReads.{with_row, past_kept}
use Rattle.keep_office.proofs.RowOrder.{row_total, not_row, greater_apart, then_parts}
use Rattle.keep_office.proofs.ListFacts.{self_same}

-- rows that tie are of one day, vehicle and expressway
pub tied : (r s : SpentRow) → row_cmp r s ≡ Equal → is_row r.day r.vid r.xway s ≡ true
tied r s e =
    let a = then_parts (nat_cmp r.day s.day) (ordering_then (nat_cmp r.vid s.vid) (nat_cmp r.xway s.xway)) e in
    let b = then_parts (nat_cmp r.vid s.vid) (nat_cmp r.xway s.xway) a.1 in
    rw (
      nat_cmp-IsAntisymmetric r.day s.day a.0,
      nat_cmp-IsAntisymmetric r.vid s.vid b.0,
      nat_cmp-IsAntisymmetric r.xway
          s.xway b.1,
    )
    (ap (λ c. c && (s.vid == s.vid && s.xway == s.xway)) (self_same s.day)
    ∙ ap (λ c. c && s.xway == s.xway) (self_same s.vid) ∙ self_same s.xway)

-- rows that do not tie are not
pub apart : (r s : SpentRow) → (row_cmp r s ≡ Equal → ⊥) → is_row r.day r.vid r.xway s ≡ false
apart r s no_tie = not_row r.day r.vid r.xway s (λ e. no_tie (row_total.antisymm r s ∙ ap ordering_reverse e))

pub some_none : (x : ℕ) → Some x ≡ None → ⊥
some_none x e = cc

or_swap : (a b c : Bool) → (a || (b || c)) ≡ (b || (a || c))
or_swap true true c = refl
or_swap true false c = refl
or_swap false b c = refl

pub or_end : (a b : Bool) → (a || b) ≡ (b || (a || false))
or_end true true = refl
or_end true false = refl
or_end false true = refl
or_end false false = refl

-- whether some row passes, with a row more
pub any_with : (p : SpentRow → Bool) (xs : List SpentRow) (r : SpentRow) →
    list_any p (with_row xs r) ≡ (p r || list_any p xs)
any_with p [] r = refl
any_with p (s ∷ ss) r = by_order (row_cmp r s) refl (any_with p ss r)
  where
    by_order : (o : Ordering) → row_cmp r s ≡ o → list_any p (with_row ss r) ≡ (p r || list_any p ss) →
        list_any p (with_row (s ∷ ss) r) ≡ (p r || (p s || list_any p ss))
    by_order Less e rest = ap (λ o. list_any p (match_ordering o (r ∷ s ∷ ss) (r ∷ s ∷ ss) (s ∷ with_row ss r))) e
    by_order Equal e rest = ap (λ o. list_any p (match_ordering o (r ∷ s ∷ ss) (r ∷ s ∷ ss) (s ∷ with_row ss r))) e
    by_order Greater e rest =
        ap (λ o. list_any p (match_ordering o (r ∷ s ∷ ss) (r ∷ s ∷ ss) (s ∷ with_row ss r))) e
        ∙ ap (λ b. p s || b) rest ∙ or_swap (p s) (p r) (list_any p ss)

-- what holds of each row, with a row more
pub all_with : (P : SpentRow → Type 0) (xs : List SpentRow) (r : SpentRow) → AllByRecursion P xs → P r →
    AllByRecursion P (with_row xs r)
all_with P [] r h g = (g, tt)
all_with P (s ∷ ss) r h g = by_order (row_cmp r s) refl (all_with P ss r h.1 g)
  where
    by_order : (o : Ordering) → row_cmp r s ≡ o → AllByRecursion P (with_row ss r) →
        AllByRecursion P (with_row (s ∷ ss) r)
    by_order Less e rest =
        subst (λ o. AllByRecursion P (match_ordering o (r ∷ s ∷ ss) (r ∷ s ∷ ss) (s ∷ with_row ss r))) (sym e) (g, h)
    by_order Equal e rest =
        subst (λ o. AllByRecursion P (match_ordering o (r ∷ s ∷ ss) (r ∷ s ∷ ss) (s ∷ with_row ss r))) (sym e) (g, h)
    by_order Greater e rest =
        subst (λ o. AllByRecursion P (match_ordering o (r ∷ s ∷ ss) (r ∷ s ∷ ss) (s ∷ with_row ss r))) (sym e)
        (h.0, rest)

-- a row below all stands first
front : (ys : List SpentRow) (r : SpentRow) → AllByRecursion (λ y. row_cmp r y ≡ Less) ys → with_row ys r ≡ r ∷ ys
front [] r h = refl
front (y ∷ ys) r h = ap (λ o. match_ordering o (r ∷ y ∷ ys) (r ∷ y ∷ ys) (y ∷ with_row ys r)) h.0

or_parts : (a b : Bool) → (a || b) ≡ false → (a ≡ false) × (b ≡ false)
or_parts true b e = let bad : ⊥ = cc in absurd bad
or_parts false b e = (refl, e)

true_false : (b : Bool) → b ≡ true → b ≡ false → ⊥
true_false b e f = cc

-- those of a list that pass, where the first passes or not
filter_head : (p : SpentRow → Bool) (s : SpentRow) (ss : List SpentRow) (b : Bool) → p s ≡ b →
    filter p (s ∷ ss) ≡ cond b (s ∷ filter p ss) (filter p ss)
filter_head p s ss b e = ap (λ c. cond c (s ∷ filter p ss) (filter p ss)) e

-- a row that passes comes behind one that it is above, and one that does not is left out
filter_above : (p : SpentRow → Bool) (s : SpentRow) (ss : List SpentRow) (r : SpentRow) (b c : Bool) → p s ≡ b →
    p r ≡ c → row_cmp r s ≡ Greater
    → filter p (with_row ss r) ≡ cond (p r) (with_row (filter p ss) r) (filter p ss) →
    filter p (s ∷ with_row ss r) ≡ cond (p r) (with_row (filter p (s ∷ ss)) r) (filter p (s ∷ ss))
filter_above p s ss r true true f g e rest =
    filter_head p s (with_row ss r) true f ∙ ap (λ xs. s ∷ xs) (rest ∙ cond-true _ _ _ g)
    ∙ sym (cond-true _ _ _ g ∙ ap (λ xs. with_row xs r) (filter_head p s ss true f)
    ∙ ap (λ o. match_ordering o (r ∷ s ∷ filter p ss) (r ∷ s ∷ filter p ss) (s ∷ with_row (filter p ss) r)) e)
filter_above p s ss r true false f g e rest =
    filter_head p s (with_row ss r) true f ∙ ap (λ xs. s ∷ xs) (rest ∙ cond-false _ _ _ g)
    ∙ sym (cond-false _ _ _ g ∙ filter_head p s ss true f)
filter_above p s ss r false true f g e rest =
    filter_head p s (with_row ss r) false f ∙ rest ∙ cond-true _ _ _ g
    ∙ sym (cond-true _ _ _ g ∙ ap (λ xs. with_row xs r) (filter_head p s ss false f))
filter_above p s ss r false false f g e rest =
    filter_head p s (with_row ss r) false f ∙ rest ∙ cond-false _ _ _ g
    ∙ sym (cond-false _ _ _ g ∙ filter_head p s ss false f)

-- a row below all that pass stands first, or is left out
filter_below : (p : SpentRow → Bool) (xs : List SpentRow) (r : SpentRow) → AllByRecursion (λ y. row_cmp r y ≡ Less) xs →
    filter p (r ∷ xs) ≡ cond (p r) (with_row (filter p xs) r) (filter p xs)
filter_below p xs r h =
    ap (λ zs. cond (p r) zs (filter p xs)) (sym (front (filter p xs) r (each.kept (λ y. row_cmp r y ≡ Less) p xs h)))

filter_at : (p : SpentRow → Bool) (s : SpentRow) (ss : List SpentRow) (r : SpentRow) →
    AllByRecursion (λ y. row_cmp s y ≡ Less) ss → is_row r.day r.vid r.xway s ≡ false → (o : Ordering) → row_cmp r s ≡ o
    → filter p (with_row ss r) ≡ cond (p r) (with_row (filter p ss) r) (filter p ss) →
    filter p (with_row (s ∷ ss) r) ≡ cond (p r) (with_row (filter p (s ∷ ss)) r) (filter p (s ∷ ss))
filter_at p s ss r above off Less e rest =
    ap (λ o. filter p (match_ordering o (r ∷ s ∷ ss) (r ∷ s ∷ ss) (s ∷ with_row ss r))) e
    ∙ filter_below p (s ∷ ss) r (
      e,
      each.weakened (λ y. row_cmp s y ≡ Less) (λ y. row_cmp r y ≡ Less) (λ y less. row_total.trans r s y e less)
          ss above,
    )
filter_at p s ss r above off Equal e rest = absurd (true_false (is_row r.day r.vid r.xway s) (tied r s e) off)
filter_at p s ss r above off Greater e rest =
    ap (λ o. filter p (match_ordering o (r ∷ s ∷ ss) (r ∷ s ∷ ss) (s ∷ with_row ss r))) e
    ∙ filter_above p s ss r (p s) (p r) refl refl e rest

-- those that pass, with a row more
pub filter_with : (p : SpentRow → Bool) (xs : List SpentRow) (r : SpentRow) → RowsRise xs →
    list_any (is_row r.day r.vid r.xway) xs ≡ false →
    filter p (with_row xs r) ≡ cond (p r) (with_row (filter p xs) r) (filter p xs)
unfolding IsStrictlySortedBy
filter_with p [] r rise off = refl
filter_with p (s ∷ ss) r rise off =
    let parts = or_parts (is_row r.day r.vid r.xway s) (list_any (is_row r.day r.vid r.xway) ss) off in
    filter_at p s ss r rise.0 parts.0 (row_cmp r s) refl (filter_with p ss r rise.1 parts.1)

-- the amounts that are kept, with one more
pub kept_push : (rows : List SpentRow) (r : SpentRow) →
    past_kept (rows ++ r ∷ []) ≡ cond (nat_lt 0 r.tolls) (with_row (past_kept rows) r) (past_kept rows)
kept_push rows r =
    ap (fold with_row []) (filter-append (λ (s : SpentRow). nat_lt 0 s.tolls) rows (r ∷ []))
    ∙ fold-append with_row [] (filter (λ (s : SpentRow). nat_lt 0 s.tolls) rows)
    (cond (nat_lt 0 r.tolls) (r ∷ []) []) ∙ one (nat_lt 0 r.tolls) (past_kept rows)
  where
    one : (b : Bool) (xs : List SpentRow) → fold with_row xs (cond b (r ∷ []) []) ≡ cond b (with_row xs r) xs
    one true xs = refl
    one false xs = refl

-- rows in order, those of them that pass
pub some_rise : (p : SpentRow → Bool) (xs : List SpentRow) → RowsRise xs → RowsRise (filter p xs)
unfolding IsStrictlySortedBy
some_rise p [] h = tt
some_rise p (x ∷ xs) h =
    cond_both (p x) (x ∷ filter p xs) (filter p xs) RowsRise
    (λ _. (each.kept (λ y. row_cmp x y ≡ Less) p xs h.0, some_rise p xs h.1)) (λ _. some_rise p xs h.1)

-- what is nothing
pub not_some : (o : Option ℕ) → is_some o ≡ false → o ≡ None
not_some None e = refl
not_some (Some x) e = let bad : ⊥ = cc in absurd bad

-- a row below another is not above it
turned : (s r : SpentRow) → row_cmp s r ≡ Less → row_cmp r s ≡ Greater
turned s r e = row_total.antisymm r s ∙ ap ordering_reverse e

-- a row behind all stands last
pub stands_last : (xs : List SpentRow) (r : SpentRow) → AllByRecursion (λ s. row_cmp s r ≡ Less) xs →
    with_row xs r ≡ xs ++ r ∷ []
stands_last [] r h = refl
stands_last (s ∷ ss) r h =
    ap (λ o. match_ordering o (r ∷ s ∷ ss) (r ∷ s ∷ ss) (s ∷ with_row ss r)) (turned s r h.0)
    ∙ ap (λ xs. s ∷ xs) (stands_last ss r h.1)

-- a row behind all is of none of their keys
pub none_behind : (xs : List SpentRow) (r : SpentRow) → AllByRecursion (λ s. row_cmp s r ≡ Less) xs →
    list_any (is_row r.day r.vid r.xway) xs ≡ false
none_behind [] r h = refl
none_behind (s ∷ ss) r h =
    ap (λ b. b || list_any (is_row r.day r.vid r.xway) ss) (apart r s (λ e. greater_apart (sym (turned s r h.0) ∙ e)))
    ∙ none_behind ss r h.1

-- a row behind the last of some in order is behind all of them
pub behind_last : (xs : List SpentRow) (s r : SpentRow) → RowsRise (xs ++ s ∷ []) → row_cmp s r ≡ Less →
    AllByRecursion (λ x. row_cmp x r ≡ Less) (xs ++ s ∷ [])
unfolding IsStrictlySortedBy
behind_last [] s r rise less = (less, tt)
behind_last (x ∷ xs) s r rise less =
    let first = each.right_part (λ y. row_cmp x y ≡ Less) xs (s ∷ []) rise.0 in
    (row_total.trans x s r first.0 less, behind_last xs s r rise.1 less)

-- what holds of each row holds of the row at a place
at_place : (P : SpentRow → Type 0) (xs : List SpentRow) (i : ℕ) (d : SpentRow) → AllByRecursion P xs → i < length xs →
    P (get_or xs i d)
at_place P [] i d h less = absurd (omega arith)
at_place P (x ∷ xs) zero d h less = h.0
at_place P (x ∷ xs) (suc i) d h less = at_place P xs i d h.1 (omega arith)

-- the rows before a place are below the row there
pub below_place : (xs : List SpentRow) (i : ℕ) (d : SpentRow) → RowsRise xs → i < length xs →
    AllByRecursion (λ s. row_cmp s (get_or xs i d) ≡ Less) (take i xs)
unfolding IsStrictlySortedBy
below_place [] i d rise less = absurd (omega arith)
below_place (x ∷ xs) zero d rise less = tt
below_place (x ∷ xs) (suc i) d rise less =
    (at_place (λ y. row_cmp x y ≡ Less) xs i d rise.0 (omega arith), below_place xs i d rise.1 (omega arith))
