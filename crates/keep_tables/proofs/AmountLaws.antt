-- The amount of a vehicle on an expressway on a day, as it is found.
use Rattle.std.proofs.Common.{◌≡◌, ◌⊎◌, inl, inr, ℕ, pos, ◌==◌, ◌&&◌, Bool, true, false, List, [], ◌∷◌, map, filter}
use Rattle.std.proofs.Common.{drop, find, slice_get, Some, None, refl, sym, ap, ap₂, subst, ◌∙◌, arith, IsPermutation}
use Rattle.std.proofs.lemmas.List.Sorted.{IsPermutation-map, IsPermutation-trans, length_permutation}
use Rattle.std.proofs.lemmas.Bool.Decides.{nat_tests}
use Rattle.std.proofs.lemmas.Bool.{cases_Bool, and_parts}
use Rattle.sqlite_value.specs.declared.value.Value.TheVariants.{Null, Int}
use Rattle.sqlite_value.specs.declared.keys.Collation.TheVariants.{Binary}
use Rattle.sqlite_value.specs.Order.{Row, column}
use Rattle.sqlite_sql.specs.Ops.{binary, is_true}
use Rattle.sqlite_sql.specs.declared.ops.BinaryOp.TheVariants.{Compare}
use Rattle.sqlite_sql.specs.declared.ops.CompareOp.TheVariants.{Eq}
use Rattle.sqlite_typed.proofs.TestLemmas.{at_ints, int_test}
use Rattle.sqlite_keyed.proofs.ListLemmas.{map-map, filter-map, filter_same, map_same, filter_none, slice_get-filter}
use Rattle.sqlite_keyed.proofs.ListLemmas.{IsPermutation-filter, all_weaker}
use Rattle.sqlite.specs.State.{State, Shown}
use Rattle.sqlite.specs.Effect.{Reads}
use Rattle.sqlite.proofs.Callers.{reads_as, one_permutation}
use Rattle.road_time.specs.declared.day.SpentRow.{SpentRow}
use Rattle.keep_office.specs.Office.{Office}
use Rattle.road_time.specs.History.{is_row, paid, KeysDiffer}
use Rattle.keep_office.proofs.HistoryLaws.{keys_law}
use Rattle.keep_tables.specs.Layout.{all_tables}
use Rattle.keep_tables.specs.Texts.{find_spent}
use Rattle.keep_tables.specs.Select.{spent_query, spent_compiled, passes}
use Rattle.keep_tables.specs.Codec.{spent_row}
use Rattle.keep_tables.specs.Stands.{HasOffice, AreAmountRows}
use Rattle.keep_tables.specs.Amounts.{HasAmount}
use Rattle.keep_tables.proofs.QueryLaws.{find_spent_is, find_spent_plain}
use Rattle.keep_tables.proofs.SelectLaws.{table_answer, shown}

-- the parameters of the query
abbrev pub asked : ℕ → ℕ → ℕ → Row
asked day vid xway = Int (pos day) ∷ Int (pos vid) ∷ Int (pos xway) ∷ []

-- two numbers pass the test of whole numbers where they are the same
tied : (m n : ℕ) → int_test Eq (pos m) (pos n) ≡ (m == n)
tied m n = grind (arith, nat_tests)

-- two numbers are the same as values
pub same_numbers : (m n : ℕ) → is_true (binary (Compare Eq Binary) (Int (pos m)) (Int (pos n))) ≡ (m == n)
same_numbers m n = at_ints false Eq (pos m) (pos n) ∙ tied m n

-- a last true changes nothing
pub last_true : (b : Bool) → (b && true) ≡ b
last_true true = refl
last_true false = refl

-- what has the elements of nothing is nothing
pub none_left : {X : Type 0} (xs : List X) → IsPermutation [] xs → xs ≡ []
none_left [] same = refl
none_left (x ∷ xs) same = absurd (omega (arith, length_permutation [] (x ∷ xs) same))

module _ (day vid xway : ℕ) where
  -- the tests see the columns alone, and not the number before them
  abbrev tested : Row → Bool
  tested columns = passes spent_query.filter (asked day vid xway) (Null ∷ columns)

  -- what is shown of the columns
  abbrev tolls : Row → Row
  tolls columns = column columns 3 ∷ []

  -- the tests pass the rows with the key
  tested_row : (r : SpentRow) → tested (spent_row r) ≡ is_row day vid xway r
  tested_row r =
      ap₂ ◌&&◌ (same_numbers r.day day)
      (ap₂ ◌&&◌ (same_numbers r.vid vid)
      (ap (λ b. b && true) (same_numbers r.xway xway) ∙ last_true (r.xway == xway)))

  -- a row passes by its columns
  blind : (r : Row) → passes spent_query.filter (asked day vid xway) r ≡ tested (drop 1 r)
  blind [] = refl
  blind (x ∷ xs) = refl

  -- what is shown is of its columns
  shown_tolls : (r : Row) → shown spent_query.project (asked day vid xway) r ≡ tolls (drop 1 r)
  shown_tolls [] = refl
  shown_tolls (x ∷ xs) = refl

  -- the rows of an answer are the amounts of the rows with the key, in some order
  answer_rows : (rows : List SpentRow) (kept found : List Row) → AreAmountRows rows kept
      → IsPermutation
      (map (shown spent_query.project (asked day vid xway))
      (filter (passes spent_query.filter (asked day vid xway)) kept)) found
      → IsPermutation (map (λ (r : SpentRow). Int (pos r.tolls) ∷ []) (filter (is_row day vid xway) rows)) found
  answer_rows rows kept found are answer =
      let columns : map (shown spent_query.project (asked day vid xway))
      (filter (passes spent_query.filter (asked day vid xway)) kept) ≡ map tolls
      (filter tested (map (drop 1) kept)) =
      map_same _ _ shown_tolls _ ∙ sym (map-map tolls (drop 1) _)
      ∙ ap (map tolls) (ap (map (drop 1)) (filter_same _ _ blind kept) ∙ sym (filter-map tested (drop 1) kept)) in
      let records : map tolls (filter tested (map spent_row rows)) ≡ map (λ (r : SpentRow). Int (pos r.tolls) ∷ [])
      (filter (is_row day vid xway) rows) =
      ap (map tolls) (filter-map tested spent_row rows) ∙ map-map tolls spent_row _
      ∙ ap (map (λ (r : SpentRow). Int (pos r.tolls) ∷ [])) (filter_same _ _ tested_row rows) in
      subst (λ l. IsPermutation l found) records
      (IsPermutation-trans _ _ _ (IsPermutation-map tolls _ _ (IsPermutation-filter tested _ _ are))
      (subst (λ l. IsPermutation l found) columns answer))

  -- a row with another key than one that passes does not pass
  apart : (r s : SpentRow) → is_row day vid xway r ≡ true → is_row r.day r.vid r.xway s ≡ false →
      is_row day vid xway s ≡ false
  apart r s is other =
      let one = and_parts (r.day == day) (r.vid == vid && r.xway == xway) is in
      let two = and_parts (r.vid == vid) (r.xway == xway) one.1 in
      let d : r.day ≡ day = grind (arith, nat_tests, one.0) in
      let v : r.vid ≡ vid = grind (arith, nat_tests, two.0) in
      let x : r.xway ≡ xway = grind (arith, nat_tests, two.1) in
      rw (d, v, x) at other

  -- one row at most has the key
  one_at_most : (rows : List SpentRow) → KeysDiffer rows → (filter (is_row day vid xway) rows ≡ [])
      ⊎ ((r : SpentRow) × (filter (is_row day vid xway) rows ≡ r ∷ []))
  one_at_most [] differ = inl refl
  one_at_most (r ∷ rows) differ =
      elim (cases_Bool (is_row day vid xway r)) [
        | inl is ↦ inr (
          r,
          rw is
              (ap (λ l. r ∷ l)
              (filter_none (is_row day vid xway) rows
              (all_weaker _ (λ s. is_row day vid xway s ≡ false) (λ s other. apart r s is other) rows differ.0))),
        )
        | inr other ↦ rw other (one_at_most rows differ.1)
      ]

  pub amount_found : (o : Office) (kept found : List Row) → KeysDiffer o.rows → AreAmountRows o.rows kept
      → IsPermutation
      (map (shown spent_query.project (asked day vid xway))
      (filter (passes spent_query.filter (asked day vid xway)) kept)) found → HasAmount found (paid o.rows day vid xway)
  amount_found o kept found differ are answer =
      let same = answer_rows o.rows kept found are answer in
      let first = slice_get-filter (is_row day vid xway) o.rows in
      elim (one_at_most o.rows differ) [
        | inl none ↦
            let nothing : find (is_row day vid xway) o.rows ≡ None = sym first ∙ ap (λ l. slice_get l 0) none in
            let empty =
            none_left found
            (subst (λ l. IsPermutation (map (λ (r : SpentRow). Int (pos r.tolls) ∷ []) l) found) none same) in
            rw (nothing, empty) refl
        | inr one ↦
            let it : find (is_row day vid xway) o.rows ≡ Some one.0 = sym first ∙ ap (λ l. slice_get l 0) one.1 in
            let alone =
            one_permutation (Int (pos one.0.tolls) ∷ []) found
            (subst (λ l. IsPermutation (map (λ (r : SpentRow). Int (pos r.tolls) ∷ []) l) found) one.1 same) in
            rw (it, alone) refl
      ]

  -- a database that stands for an office gives its amount
  pub amount_read : (o : Office) (old new : State) (found : List Row) → HasOffice old.now o →
      Shown find_spent (asked day vid xway) old new found → HasAmount found (paid o.rows day vid xway)
  amount_read o old new found has shown =
      let read : Reads spent_compiled old.now (asked day vid xway) found =
      reads_as find_spent (asked day vid xway) old new all_tables has.tables.schema spent_compiled find_spent_is
      find_spent_plain.0 find_spent_plain.1 found shown in
      amount_found o (old.now.trees 1) found (keys_law o.rows has.sound.rows_rise) has.tables.rows_are
      (table_answer 1 spent_query.filter spent_query.project [] _ (asked day vid xway) found read.answer)

-- an answer has one amount
pub one_amount : (found : List Row) (s t : ℕ) → HasAmount found s → HasAmount found t → s ≡ t
one_amount [] s t p q = p ∙ sym q
one_amount (r ∷ []) s t p q = let same = sym p ∙ q in cc
one_amount (r ∷ x ∷ rs) s t p q = absurd p
