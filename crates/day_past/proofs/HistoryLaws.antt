-- The output of a day is the same by any history that has the amounts that are asked for.
use Rattle.std.proofs.Common.{◌≡◌, ℕ, ◌-◌, ◌≤◌, ◌||◌, Bool, true, false, List, [], ◌∷◌, ◌++◌, refl, ap, ◌∙◌, arith}
use Rattle.std.specs.List.{AllByRecursion, list_any}
use Rattle.std.proofs.lemmas.List.Elements.{recursion_from_All}
use Rattle.road_time.specs.declared.road.Tuple.{Tuple}
use Rattle.road_time.specs.declared.road.Tuple.TheVariants.{Report as ReportTuple, Balance, Spent, Travel}
use Rattle.road_time.specs.declared.day.SpentRow.{SpentRow}
use Rattle.road_time.specs.Fits.{IsValid, IsDay}
use Rattle.road_time.specs.Rates.{Tariffs}
use Rattle.road_time.specs.Sights.{Sight, moments_after}
use Rattle.road_time.specs.Tolls.{StretchTold}
use Rattle.road_time.specs.Day.{rules, told_by, answer_by, notices_by, notices}
use Rattle.road_time.specs.History.{paid}
use Rattle.keep_office.specs.Office.{Office, rows_between}
use Rattle.keep_office.proofs.HistoryLaws.{history_law}
use Rattle.day_past.specs.Asks.{asks_history, HasAsked, HasAllAsked, AreRight}
use Rattle.day_past.proofs.AskedAmountLaws.{paid_right}

-- two histories have the same for what a tuple asks
abbrev pub SameFor : ℕ → (ℕ → ℕ → ℕ → ℕ) → (ℕ → ℕ → ℕ → ℕ) → Tuple → Type 0
SameFor number a b (ReportTuple r) = Unit {0}
SameFor number a b (Balance time vid qid) = Unit {0}
SameFor number a b (Spent time vid xway qid day) = a (number - day) vid xway ≡ b (number - day) vid xway
SameFor number a b (Travel time) = Unit {0}

module _ (finding : Sight → StretchTold) (number : ℕ) (a b : ℕ → ℕ → ℕ → ℕ) where
  -- the answer to a tuple is the same by both
  same_answer : (before : List Tuple) (x : Tuple) → SameFor number a b x →
      answer_by finding number a (before, x) ≡ answer_by finding number b (before, x)
  same_answer before (ReportTuple r) h = refl
  same_answer before (Balance time vid qid) h = refl
  same_answer before (Spent time vid xway qid day) h =
      let same : a (number - day) vid xway ≡ b (number - day) vid xway = h in cc
  same_answer before (Travel time) h = refl

  -- what tuples after some others cause is the same by both
  same_notices : (before xs : List Tuple) → AllByRecursion (SameFor number a b) xs →
      notices_by finding number a (moments_after before xs) ≡ notices_by finding number b (moments_after before xs)
  same_notices before [] h = refl
  same_notices before (x ∷ xs) h =
      ap (λ ns. (told_by finding (before, x) ++ ns) ++ notices_by finding number a
      (moments_after (before ++ x ∷ []) xs)) (same_answer before x h.0)
      ∙ ap (λ ns. (told_by finding (before, x) ++ answer_by finding number b (before, x)) ++ ns)
      (same_notices (before ++ x ∷ []) xs h.1)

-- a valid tuple of a day is answered alike by all amounts and by those of the 69 days before
valid_same : (number : ℕ) (o : Office) (rows : List SpentRow) → rows ≡ rows_between o (number - 69) (number - 1) →
    70 ≤ number → (x : Tuple) → IsValid x → SameFor number (paid rows) (paid o.rows) x
valid_same number o rows e low (ReportTuple r) v = tt
valid_same number o rows e low (Balance time vid qid) v = tt
valid_same number o rows e low (Spent time vid xway qid day) v =
    let from : number - 69 ≤ number - day = omega (arith, v.4, v.5) in
    let to : number - day ≤ number - 1 = omega (arith, v.4, v.5) in
    ap (λ rs. paid rs (number - day) vid xway) e
    ∙ history_law o (number - 69) (number - 1) (number - day) vid xway from to
valid_same number o rows e low (Travel time) v = tt

all_same : (number : ℕ) (o : Office) (rows : List SpentRow) → rows ≡ rows_between o (number - 69) (number - 1) →
    70 ≤ number → (xs : List Tuple) → AllByRecursion IsValid xs →
    AllByRecursion (SameFor number (paid rows) (paid o.rows)) xs
all_same number o rows e low [] v = tt
all_same number o rows e low (x ∷ xs) v = (valid_same number o rows e low x v.0, all_same number o rows e low xs v.1)

-- a day's output by the amounts of the 69 days before is that by all amounts
pub by_history : (number : ℕ) (o : Office) (rows : List SpentRow) → rows ≡ rows_between o (number - 69) (number - 1) →
    70 ≤ number → (day : List Tuple) → IsDay day → (tariffs : Tariffs) →
    notices day tariffs number (paid rows) ≡ notices day tariffs number (paid o.rows)
by_history number o rows e low day fit tariffs =
    same_notices (rules day tariffs) number (paid rows) (paid o.rows) [] day
    (all_same number o rows e low day (recursion_from_All IsValid day fit.valid))

-- a tuple that asks for nothing is answered alike by any two histories
unasked_same : (number : ℕ) (a b : ℕ → ℕ → ℕ → ℕ) (x : Tuple) → asks_history x ≡ false → SameFor number a b x
unasked_same number a b (ReportTuple r) e = tt
unasked_same number a b (Balance time vid qid) e = tt
unasked_same number a b (Spent time vid xway qid day) e = let bad : ⊥ = cc in absurd bad
unasked_same number a b (Travel time) e = tt

none_asks : (number : ℕ) (a b : ℕ → ℕ → ℕ → ℕ) (xs : List Tuple) → list_any asks_history xs ≡ false →
    AllByRecursion (SameFor number a b) xs
none_asks number a b [] e = tt
none_asks number a b (x ∷ xs) e =
    let parts = or_parts (asks_history x) (list_any asks_history xs) e in
    (unasked_same number a b x parts.0, none_asks number a b xs parts.1)
  where
    or_parts : (p q : Bool) → (p || q) ≡ false → (p ≡ false) × (q ≡ false)
    or_parts true q e = let bad : ⊥ = cc in absurd bad
    or_parts false q e = (refl, e)

-- the output of a day that asks for nothing is the same by any two histories
pub by_none : (number : ℕ) (a b : ℕ → ℕ → ℕ → ℕ) (day : List Tuple) (tariffs : Tariffs) →
    list_any asks_history day ≡ false → notices day tariffs number a ≡ notices day tariffs number b
by_none number a b day tariffs e = same_notices (rules day tariffs) number a b [] day (none_asks number a b day e)

-- a tuple is answered alike by right amounts of what it asks for and by all amounts
asked_same : (number : ℕ) (kept rows : List SpentRow) → AreRight kept rows → (x : Tuple) → HasAsked number rows x →
    SameFor number (paid rows) (paid kept) x
asked_same number kept rows right (ReportTuple r) h = tt
asked_same number kept rows right (Balance time vid qid) h = tt
asked_same number kept rows right (Spent time vid xway qid day) h =
    paid_right kept (number - day) vid xway rows right h
asked_same number kept rows right (Travel time) h = tt

each_same : (number : ℕ) (kept rows : List SpentRow) → AreRight kept rows → (xs : List Tuple) →
    HasAllAsked number rows xs → AllByRecursion (SameFor number (paid rows) (paid kept)) xs
each_same number kept rows right [] h = tt
each_same number kept rows right (x ∷ xs) h =
    (asked_same number kept rows right x h.0, each_same number kept rows right xs h.1)

-- a day's output by right amounts of all that it asks for is that by all amounts
pub by_asked : (number : ℕ) (kept rows : List SpentRow) → AreRight kept rows → (day : List Tuple) →
    HasAllAsked number rows day → (tariffs : Tariffs) →
    notices day tariffs number (paid rows) ≡ notices day tariffs number (paid kept)
by_asked number kept rows right day asked tariffs =
    same_notices (rules day tariffs) number (paid rows) (paid kept) [] day (each_same number kept rows right day asked)
