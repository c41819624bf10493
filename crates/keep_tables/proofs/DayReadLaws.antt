-- What the queries for days, seals and the history show of an office.
use Rattle.std.proofs.Common.{◌≡◌, ◌⊎◌, inl, inr, ℕ, pos, max, ◌==◌, ◌&&◌, true, false, List, [], ◌∷◌, ◌++◌, map}
use Rattle.std.proofs.Common.{filter, find, take, slice_get, Some, None, Option, refl, sym, ap, subst, ◌∙◌, arith}
use Rattle.std.proofs.Common.{append-nil, IsPermutation}
use Rattle.std.specs.List.{AllByRecursion}
use Rattle.std.specs.List.Sorted.{IsStrictlySortedBy}
use Rattle.std.specs.declared.cmp.Ordering.TheVariants.{Less}
use Rattle.std.specs.Ordering.{nat_cmp}
use Rattle.std.proofs.lemmas.Bool.{cases_Bool}
use Rattle.std.proofs.lemmas.Bool.Decides.{nat_tests}
use Rattle.std.proofs.lemmas.List.{map-append}
use Rattle.std.proofs.lemmas.List.Sorted.{IsPermutation-map, IsPermutation-trans, IsPermutation-refl}
use Rattle.std.proofs.lemmas.List.Sorted.{IsPermutation-cons, IsPermutation-middle}
use Rattle.sqlite_value.specs.declared.value.Value.TheVariants.{Int}
use Rattle.sqlite_value.specs.Order.{Row}
use Rattle.sqlite_trees.specs.Tree.{IsAscending}
use Rattle.sqlite_sql.specs.Query.{Output, output, output_cmp}
use Rattle.sqlite_sql.specs.Term.{Term}
use Rattle.sqlite_typed.proofs.TestLemmas.{last_key}
use Rattle.sqlite_keyed.proofs.ListLemmas.{map-map, filter-map, filter_same, filter_all, filter_none, map_same, all_of}
use Rattle.sqlite_keyed.proofs.ListLemmas.{all_weaker, all_unmap, all-append, slice_get-filter, ascending-map}
use Rattle.sqlite_keyed.proofs.ListLemmas.{ascending_from_map, ascending_weaker, ascending-append}
use Rattle.sqlite.specs.State.{State, Shown}
use Rattle.sqlite.proofs.Callers.{reads_as, one_permutation}
use Rattle.keep_office.specs.declared.kept.DayRecord.{DayRecord}
use Rattle.keep_office.specs.declared.kept.PastRecord.{PastRecord}
use Rattle.keep_office.specs.Office.{Office, record_of, greatest_day}
use Rattle.keep_tables.specs.Layout.{all_tables}
use Rattle.keep_tables.specs.Texts.{find_day, find_seal, find_past, find_last, list_days}
use Rattle.keep_tables.specs.Select.{passes, day_query, seal_query, past_query, last_query, days_query}
use Rattle.keep_tables.specs.Codec.{day_row, seal_row, past_row, past_values}
use Rattle.keep_tables.specs.Shown.{day_columns, seal_columns, number_columns, row_if_any, last_rows}
use Rattle.keep_tables.specs.Stands.{HasOffice, HoldsAs, Contents, past_rows}
use Rattle.keep_tables.proofs.QueryLaws.{find_day_is, find_day_plain, find_seal_is, find_seal_plain, find_past_is}
use Rattle.keep_tables.proofs.QueryLaws.{find_past_plain, find_last_is, find_last_plain, list_days_is, list_days_plain}
use Rattle.keep_tables.proofs.SelectLaws.{table_answer, ordered_by, first_by, shown}
use Rattle.keep_tables.proofs.AmountLaws.{same_numbers, last_true, none_left}
use Rattle.keep_tables.proofs.ReadLaws.{ascends, by_number}

-- the days rise
abbrev pub DaysRise : List DayRecord → Type 0
DaysRise ds = IsStrictlySortedBy nat_cmp (map (λ (r : DayRecord). r.day) ds)

-- one day at most has a number
one_at_most : (day : ℕ) (ds : List DayRecord) → DaysRise ds → (filter (λ r. r.day == day) ds ≡ [])
    ⊎ ((r : DayRecord) × (filter (λ r. r.day == day) ds ≡ r ∷ []))
unfolding IsStrictlySortedBy
one_at_most day [] up = inl refl
one_at_most day (d ∷ ds) up = elim (cases_Bool (d.day == day)) [
  | inl is ↦ inr (
    d,
    rw is (ap (λ l. d ∷ l) (filter_none (λ (r : DayRecord). r.day == day) ds
        (all_weaker (λ (r : DayRecord). nat_cmp d.day r.day ≡ Less) (λ (r : DayRecord). (r.day == day) ≡ false)
        (λ r less. above r less is) ds
        (all_unmap (λ k. nat_cmp d.day k ≡ Less) (λ (r : DayRecord). r.day) ds up.0)))),
  )
  | inr other ↦ rw other (one_at_most day ds up.1)
]
  where
    above : (r : DayRecord) → nat_cmp d.day r.day ≡ Less → (d.day == day) ≡ true → (r.day == day) ≡ false
    above r less is = grind (arith, nat_tests, less, is)

module _ (row columns : DayRecord → Row) (tests shows : List Term) (day : ℕ)
    (seen : (r : DayRecord) → passes tests (Int (pos day) ∷ []) (row r) ≡ (r.day == day))
    (shown_is : (r : DayRecord) → shown shows (Int (pos day) ∷ []) (row r) ≡ columns r) where
  -- of rows that are days, the one that is asked for is found
  pub day_found : (ds : List DayRecord) (kept found : List Row) → DaysRise ds → kept ≡ map row ds
      → IsPermutation (map (shown shows (Int (pos day) ∷ [])) (filter (passes tests (Int (pos day) ∷ [])) kept)) found →
      found ≡ row_if_any columns (find (λ r. r.day == day) ds)
  day_found ds kept found up are answer =
      let params = Int (pos day) ∷ [] in
      let picked : map (shown shows params) (filter (passes tests params) kept) ≡ map columns
      (filter (λ r. r.day == day) ds) =
      ap (λ l. map (shown shows params) (filter (passes tests params) l)) are
      ∙ ap (map (shown shows params))
      (filter-map (passes tests params) row ds ∙ ap (map row) (filter_same _ _ seen ds))
      ∙ map-map (shown shows params) row _ ∙ map_same _ _ shown_is _ in
      let same = subst (λ l. IsPermutation l found) picked answer in
      let first = slice_get-filter (λ (r : DayRecord). r.day == day) ds in
      elim (one_at_most day ds up) [
        | inl none ↦
            let nothing : find (λ (r : DayRecord). r.day == day) ds ≡ None = sym first ∙ ap (λ l. slice_get l 0) none in
            none_left found (subst (λ l. IsPermutation (map columns l) found) none same)
            ∙ ap (row_if_any columns) (sym nothing)
        | inr one ↦
            let it : find (λ (r : DayRecord). r.day == day) ds ≡ Some one.0 =
            sym first ∙ ap (λ l. slice_get l 0) one.1 in
            one_permutation (columns one.0) found (subst (λ l. IsPermutation (map columns l) found) one.1 same)
            ∙ ap (row_if_any columns) (sym it)
      ]

-- the record of a day
pub day_shown : (day : ℕ) (o : Office) (old new : State) (found : List Row) → HasOffice old.now o →
    Shown find_day (Int (pos day) ∷ []) old new found → found ≡ row_if_any day_columns (record_of o day)
day_shown day o old new found has shown =
    let params = Int (pos day) ∷ [] in
    let read =
    reads_as find_day params old new all_tables has.tables.schema _ find_day_is find_day_plain.0 find_day_plain.1
    found shown in
    day_found day_row day_columns day_query.filter day_query.project day
    (λ r. ap (λ b. b && true) (same_numbers r.day day) ∙ last_true (r.day == day)) (λ _. refl) o.days
    (old.now.trees 0) found
    has.sound.days_rise has.tables.days_are
    (table_answer 0 day_query.filter day_query.project [] _ params found read.answer)

-- and its seal
pub seal_shown : (day : ℕ) (o : Office) (old new : State) (found : List Row) → HasOffice old.now o →
    Shown find_seal (Int (pos day) ∷ []) old new found → found ≡ row_if_any seal_columns (record_of o day)
seal_shown day o old new found has shown =
    let params = Int (pos day) ∷ [] in
    let read =
    reads_as find_seal params old new all_tables has.tables.schema _ find_seal_is find_seal_plain.0
    find_seal_plain.1 found shown in
    day_found seal_row seal_columns seal_query.filter seal_query.project day
    (λ r. ap (λ b. b && true) (same_numbers r.day day) ∙ last_true (r.day == day)) (λ _. refl) o.days
    (old.now.trees 4) found
    has.sound.days_rise has.tables.seals_are
    (table_answer 4 seal_query.filter seal_query.project [] _ params found read.answer)

-- the row of a history is found, where one is kept
past_found : (p : Option PastRecord) (found : List Row) →
    IsPermutation (map (shown past_query.project []) (filter (passes past_query.filter []) (past_rows p))) found →
    found ≡ row_if_any past_values p
past_found None found answer = none_left found answer
past_found (Some p) found answer =
    let seen : passes past_query.filter [] (past_row p) ≡ true = ap (λ b. b && true) (same_numbers 1 1) in
    let all : filter (passes past_query.filter []) (past_row p ∷ []) ≡ past_row p ∷ [] =
    filter_all (passes past_query.filter []) (past_row p ∷ []) (seen, tt) in
    one_permutation (past_values p) found
    (subst (λ l. IsPermutation (map (shown past_query.project []) l) found) all answer)

-- the history
pub past_shown : (o : Office) (old new : State) (found : List Row) → HasOffice old.now o →
    Shown find_past [] old new found → found ≡ row_if_any past_values o.past
past_shown o old new found has shown_so =
    let read =
    reads_as find_past [] old new all_tables has.tables.schema _ find_past_is find_past_plain.0 find_past_plain.1
    found shown_so in
    past_found o.past found
    (subst (λ l. IsPermutation (map (shown past_query.project []) (filter (passes past_query.filter []) l)) found)
    has.tables.past_is (table_answer 3 past_query.filter past_query.project [] _ [] found read.answer))

-- ---- days in order

-- what the query for all days makes of a day
abbrev day_out : DayRecord → Output
day_out r = output days_query ([] ∷ day_row r ∷ [])

-- the numbers of the days that are kept
pub days_shown : (version : List Row) (c : Contents) (old new : State) (found : List Row) → HoldsAs version old.now c →
    DaysRise c.days → Shown list_days [] old new found → found ≡ map number_columns c.days
days_shown version c old new found has rise shown_so =
    let read = reads_as list_days [] old new all_tables has.schema _ list_days_is list_days_plain.0 list_days_plain.1
    found shown_so in
    let all : filter (passes [] []) (old.now.trees 0) ≡ map day_row c.days =
    filter_all (passes [] []) (old.now.trees 0) (all_of (λ r. passes [] [] r ≡ true) (λ _. refl) (old.now.trees 0))
    ∙ has.days_are in
    let outs : map day_out c.days ≡ map (λ (r : Row). output days_query ([] ∷ r ∷ []))
    (filter (passes [] []) (old.now.trees 0)) =
    sym (map-map (λ (r : Row). output days_query ([] ∷ r ∷ [])) day_row c.days)
    ∙ ap (map (λ (r : Row). output days_query ([] ∷ r ∷ []))) (sym all) in
    let up = ascending-map (λ x y. output_cmp days_query x y ≡ Less) day_out c.days
    (ascending_weaker (λ (a b : DayRecord). nat_cmp a.day b.day ≡ Less)
    (λ a b. output_cmp days_query (day_out a) (day_out b) ≡ Less)
    (λ a b less. last_key (by_number a.day b.day) ∙ less) c.days
    (ascending_from_map (λ m n. nat_cmp m n ≡ Less) (λ (r : DayRecord). r.day) c.days
    (ascends nat_cmp (map (λ (r : DayRecord). r.day) c.days) rise))) in
    ordered_by 0 [] days_query.project days_query.order _ [] found (map day_out c.days)
    (subst (IsPermutation (map day_out c.days)) outs (IsPermutation-refl (map day_out c.days))) up read.answer
    ∙ map-map (λ (p : Output). p.1) day_out c.days

-- the days, the latest first
abbrev latest_first : List DayRecord → List DayRecord
latest_first [] = []
latest_first (d ∷ ds) = latest_first ds ++ d ∷ []

-- what the query for the last day makes of a day
abbrev last_out : DayRecord → Output
last_out r = output last_query ([] ∷ day_row r ∷ [])

-- a day is after another
abbrev Later : DayRecord → DayRecord → Type 0
Later a b = nat_cmp b.day a.day ≡ Less

-- the latest first are the same days
same_days : (ds : List DayRecord) → IsPermutation (latest_first ds) ds
same_days [] = IsPermutation-refl []
same_days (d ∷ ds) = IsPermutation-trans _ _ _ (rw append-nil at (IsPermutation-middle (latest_first ds) d []))
    (IsPermutation-cons d _ _ (same_days ds))

-- what holds of all days holds of them the latest first
all_latest : (P : DayRecord → Type 0) (ds : List DayRecord) → AllByRecursion P ds → AllByRecursion P (latest_first ds)
all_latest P [] all = tt
all_latest P (d ∷ ds) all = all-append P (latest_first ds) (d ∷ []) (all_latest P ds all.1) (all.0, tt)

-- days that rise fall, the latest first
days_fall : (ds : List DayRecord) → DaysRise ds → IsAscending Later (latest_first ds)
unfolding IsStrictlySortedBy
days_fall [] up = tt
days_fall (d ∷ ds) up =
    ascending-append Later (latest_first ds) (d ∷ []) (days_fall ds up.1) (tt, tt)
    (all_latest (λ r. AllByRecursion (Later r) (d ∷ [])) ds
    (all_weaker (λ (r : DayRecord). nat_cmp d.day r.day ≡ Less) (λ r. AllByRecursion (Later r) (d ∷ []))
    (λ r less. (less, tt)) ds (all_unmap (λ k. nat_cmp d.day k ≡ Less) (λ (r : DayRecord). r.day) ds up.0)))

-- the first row is of the front, where that has one
front_taken : (xs ys : List Row) (x : Row) → take 1 xs ≡ x ∷ [] → take 1 (xs ++ ys) ≡ x ∷ []
front_taken [] ys x h = absurd (cc)
front_taken (z ∷ xs) ys x h = h

-- the first of the latest is the greatest
first_is_last : (d : DayRecord) (ds : List DayRecord) → DaysRise (d ∷ ds) →
    take 1 (map number_columns (latest_first (d ∷ ds))) ≡ (Int (pos (greatest_day d.day ds)) ∷ []) ∷ []
unfolding IsStrictlySortedBy
first_is_last d [] up = refl
first_is_last d (e ∷ ds) up =
    let more = first_is_last e ds up.1 in
    let greater : max d.day e.day ≡ e.day = later d.day e.day up.0.0 in
    ap (take 1) (map-append number_columns (latest_first (e ∷ ds)) (d ∷ []))
    ∙ front_taken (map number_columns (latest_first (e ∷ ds))) (map number_columns (d ∷ [])) _ more
    ∙ ap (λ n. (Int (pos (greatest_day n ds)) ∷ []) ∷ []) (sym greater)
  where
    later : (m n : ℕ) → nat_cmp m n ≡ Less → max m n ≡ n
    later m n less = grind (arith, nat_tests, less)

-- what is shown of the latest
latest_shown : (ds : List DayRecord) → DaysRise ds → take 1 (map number_columns (latest_first ds)) ≡ last_rows ds
latest_shown [] up = refl
latest_shown (d ∷ ds) up = first_is_last d ds up

-- the last of the days that are kept
pub last_shown : (o : Office) (old new : State) (found : List Row) → HasOffice old.now o →
    Shown find_last [] old new found → found ≡ last_rows o.days
last_shown o old new found has shown_so =
    let read =
    reads_as find_last [] old new all_tables has.tables.schema _ find_last_is find_last_plain.0 find_last_plain.1
    found shown_so in
    let ds = latest_first o.days in
    let made = λ (r : Row). output last_query ([] ∷ r ∷ []) in
    let outs : map last_out o.days ≡ map made (old.now.trees 0) = sym (map-map made day_row o.days)
    ∙ ap (map made) (sym has.tables.days_are) in
    let same : IsPermutation (map last_out ds) (map made (old.now.trees 0)) =
    subst (IsPermutation (map last_out ds)) outs (IsPermutation-map last_out _ _ (same_days o.days)) in
    let up = ascending-map (λ x y. output_cmp last_query x y ≡ Less) last_out ds
    (ascending_weaker Later (λ a b. output_cmp last_query (last_out a) (last_out b) ≡ Less)
    (λ a b less. last_key (by_number b.day a.day) ∙ less) ds (days_fall o.days has.sound.days_rise)) in
    first_by 0 last_query.project last_query.order _ [] found (map last_out ds) same up read.answer
    ∙ ap (take 1) (map-map (λ (p : Output). p.1) last_out ds) ∙ latest_shown o.days has.sound.days_rise
