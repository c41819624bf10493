-- What the queries for amounts and tariffs show of an office.
use Rattle.std.proofs.Common.{◌≡◌, ℕ, pos, ◌==◌, ◌&&◌, nat_le, Bool, true, false, List, [], ◌∷◌, map, filter, drop}
use Rattle.std.proofs.Common.{refl, sym, ap, ap₂, subst, ◌∙◌, arith, IsPermutation}
use Rattle.std.specs.List.Sorted.{IsStrictlySortedBy}
use Rattle.std.specs.declared.cmp.Ordering.{Ordering}
use Rattle.std.specs.declared.cmp.Ordering.TheVariants.{Less}
use Rattle.std.specs.Ordering.{nat_cmp, int_cmp}
use Rattle.std.specs.Map.{keys_of}
use Rattle.std.proofs.lemmas.List.Sorted.{IsPermutation-map, IsPermutation-refl}
use Rattle.std.proofs.lemmas.Bool.Decides.{nat_tests}
use Rattle.sqlite_value.specs.declared.value.Value.TheVariants.{Null, Int}
use Rattle.sqlite_value.specs.declared.keys.Collation.TheVariants.{Binary}
use Rattle.sqlite_value.specs.Order.{Row, value_cmp}
use Rattle.sqlite_value.proofs.OrderLemmas.{value_cmp-Int}
use Rattle.sqlite_trees.specs.Tree.{Trees, IsAscending}
use Rattle.sqlite_sql.specs.Ops.{binary, is_true}
use Rattle.sqlite_sql.specs.Query.{Query, Output, output, output_cmp, IsSureAnswer}
use Rattle.sqlite_sql.specs.Term.{Term}
use Rattle.sqlite_sql.specs.declared.ops.BinaryOp.TheVariants.{Compare}
use Rattle.sqlite_sql.specs.declared.ops.CompareOp.TheVariants.{Ge, Le}
use Rattle.sqlite_typed.proofs.TestLemmas.{at_ints, int_test, then_key, last_key}
use Rattle.sqlite_keyed.proofs.ListLemmas.{map-map, filter-map, filter_same, filter_all, map_same, all_of}
use Rattle.sqlite_keyed.proofs.ListLemmas.{IsPermutation-filter, ascending-map, ascending_from_map, ascending_weaker}
use Rattle.sqlite_keyed.proofs.ListLemmas.{ascending-filter}
use Rattle.sqlite.specs.Effect.{Reads}
use Rattle.sqlite.specs.State.{State, Shown}
use Rattle.sqlite.proofs.Callers.{reads_as}
use Rattle.road_time.specs.declared.day.SpentRow.{SpentRow}
use Rattle.road_time.specs.declared.tariff.Tariff.{Tariff}
use Rattle.keep_office.specs.Office.{Office, RowsRise, row_cmp, rows_between, vehicle_rows_between}
use Rattle.keep_tables.specs.Layout.{all_tables}
use Rattle.keep_tables.specs.Texts.{list_spent, list_vehicle, find_tariffs}
use Rattle.keep_tables.specs.Select.{plain, passes, place, rising, rows_query, rows_compiled, vehicle_query}
use Rattle.keep_tables.specs.Select.{tariffs_query, tariffs_compiled}
use Rattle.keep_tables.specs.Codec.{spent_row, tariff_row}
use Rattle.keep_tables.specs.Shown.{tariff_columns}
use Rattle.keep_tables.specs.Stands.{HasOffice, AreAmountRows}
use Rattle.keep_tables.proofs.QueryLaws.{list_spent_is, list_spent_plain, list_vehicle_is, list_vehicle_plain}
use Rattle.keep_tables.proofs.QueryLaws.{find_tariffs_is, find_tariffs_plain}
use Rattle.keep_tables.proofs.SelectLaws.{ordered_by}
use Rattle.keep_tables.proofs.AmountLaws.{same_numbers, last_true}

-- what is strictly sorted ascends
pub ascends : {K : Type 0} (cmp : K → K → Ordering) (xs : List K) → IsStrictlySortedBy cmp xs →
    IsAscending (λ a b. cmp a b ≡ Less) xs
unfolding IsStrictlySortedBy
ascends cmp [] up = tt
ascends cmp (x ∷ xs) up = (up.0, ascends cmp xs up.1)

-- numbers compare as values as they do
pub at_least : (m n : ℕ) → is_true (binary (Compare Ge Binary) (Int (pos m)) (Int (pos n))) ≡ nat_le n m
at_least m n = at_ints false Ge (pos m) (pos n) ∙ turned m n
  where
    turned : (a b : ℕ) → int_test Ge (pos a) (pos b) ≡ nat_le b a
    turned a b = grind (arith, nat_tests)

-- one is at most another
pub at_most : (m n : ℕ) → is_true (binary (Compare Le Binary) (Int (pos m)) (Int (pos n))) ≡ nat_le m n
at_most m n = at_ints false Le (pos m) (pos n) ∙ turned m n
  where
    turned : (a b : ℕ) → int_test Le (pos a) (pos b) ≡ nat_le a b
    turned a b = grind (arith, nat_tests)

-- their order is that of the numbers
pub by_number : (m n : ℕ) → value_cmp (Int (pos m)) (Int (pos n)) ≡ nat_cmp m n
by_number m n = value_cmp-Int (pos m) (pos n) ∙ turned m n
  where
    turned : (a b : ℕ) → int_cmp (pos a) (pos b) ≡ nat_cmp a b
    turned a b = grind (arith, nat_tests)

-- ---- amounts in the order of their keys

-- the query for amounts in the order of their keys, by some tests
abbrev pub in_key_order : List Term → Query
in_key_order tests = plain 1 tests (place 1 ∷ place 2 ∷ place 3 ∷ place 4 ∷ []) (rising 1 ∷ rising 2 ∷ rising 3 ∷ [])

module _ (tests : List Term) (params : Row) (keep : SpentRow → Bool)
    (seen : (r : SpentRow) → passes tests params (Null ∷ spent_row r) ≡ keep r)
    (blind : (r : Row) → passes tests params r ≡ passes tests params (Null ∷ drop 1 r)) where
  -- what the query makes of a row
  abbrev made : Row → Output
  made r = output (in_key_order tests) (params ∷ r ∷ [])

  -- columns pass the tests
  abbrev tested : Row → Bool
  tested columns = passes tests params (Null ∷ columns)

  -- what it makes of an amount
  abbrev out_of : SpentRow → Output
  out_of r = made (Null ∷ spent_row r)

  -- it sees the columns alone
  made_blind : (r : Row) → made r ≡ made (Null ∷ drop 1 r)
  made_blind [] = refl
  made_blind (x ∷ xs) = refl

  -- what it makes of the amounts that pass
  outs_are : (rows : List SpentRow) (kept : List Row) → AreAmountRows rows kept →
      IsPermutation (map out_of (filter keep rows)) (map made (filter (passes tests params) kept))
  outs_are rows kept are =
      let back = λ (columns : Row). made (Null ∷ columns) in
      let columns : map made (filter (passes tests params) kept) ≡ map back (filter tested (map (drop 1) kept)) =
      map_same _ _ made_blind _ ∙ sym (map-map back (drop 1) _)
      ∙ ap (map back) (ap (map (drop 1)) (filter_same _ _ blind kept) ∙ sym (filter-map tested (drop 1) kept)) in
      let records : map back (filter tested (map spent_row rows)) ≡ map out_of (filter keep rows) =
      ap (map back) (filter-map tested spent_row rows) ∙ map-map back spent_row _
      ∙ ap (map out_of) (filter_same _ _ seen rows) in
      subst (λ l. IsPermutation l (map made (filter (passes tests params) kept))) records
      (subst (IsPermutation (map back (filter tested (map spent_row rows)))) (sym columns)
      (IsPermutation-map back _ _ (IsPermutation-filter tested _ _ are)))

  -- what it makes of amounts stands in the order of their keys
  keyed_so : (a b : SpentRow) → output_cmp (in_key_order tests) (out_of a) (out_of b) ≡ row_cmp a b
  keyed_so a b =
      then_key (by_number a.day b.day) (then_key (by_number a.vid b.vid) (last_key (by_number a.xway b.xway)))

  -- and rises
  outs_rise : (rows : List SpentRow) → RowsRise rows →
      IsAscending (λ x y. output_cmp (in_key_order tests) x y ≡ Less) (map out_of (filter keep rows))
  outs_rise rows up =
      ascending-map (λ x y. output_cmp (in_key_order tests) x y ≡ Less) out_of (filter keep rows)
      (ascending_weaker (λ a b. row_cmp a b ≡ Less)
      (λ a b. output_cmp (in_key_order tests) (out_of a) (out_of b) ≡ Less) (λ a b less. keyed_so a b ∙ less)
      (filter keep rows)
      (ascending-filter (λ a b. row_cmp a b ≡ Less) keep rows (ascends row_cmp rows up)))

  pub amounts_answer : (rows : List SpentRow) (db : Trees) (found : List Row) → RowsRise rows →
      AreAmountRows rows (db 1) →
      IsSureAnswer (in_key_order tests) db params found → found ≡ map spent_row (filter keep rows)
  amounts_answer rows db found up are sure =
      ordered_by 1 tests (place 1 ∷ place 2 ∷ place 3 ∷ place 4 ∷ []) (rising 1 ∷ rising 2 ∷ rising 3 ∷ []) db params
      found (map out_of (filter keep rows)) (outs_are rows (db 1) are) (outs_rise rows up) sure
      ∙ map-map (λ (o : Output). o.1) out_of (filter keep rows)

-- the amounts of the days from one to another
pub rows_shown : (from to : ℕ) (o : Office) (old new : State) (found : List Row) → HasOffice old.now o →
    Shown list_spent (Int (pos from) ∷ Int (pos to) ∷ []) old new found → found ≡ map spent_row (rows_between o from to)
rows_shown from to o old new found has shown =
    let params = Int (pos from) ∷ Int (pos to) ∷ [] in
    let read : Reads rows_compiled old.now params found =
    reads_as list_spent params old new all_tables has.tables.schema rows_compiled list_spent_is list_spent_plain.0
    list_spent_plain.1 found shown in
    amounts_answer rows_query.filter params (λ r. nat_le from r.day && nat_le r.day to)
    (λ r. ap₂ ◌&&◌ (at_least r.day from) (ap (λ b. b && true) (at_most r.day to) ∙ last_true (nat_le r.day to)))
    (λ r. cut r)
    o.rows _ found has.sound.rows_rise has.tables.rows_are read.answer
  where
    cut : (r : Row) → passes rows_query.filter (Int (pos from) ∷ Int (pos to) ∷ []) r ≡ passes rows_query.filter
        (Int (pos from) ∷ Int (pos to) ∷ []) (Null ∷ drop 1 r)
    cut [] = refl
    cut (x ∷ xs) = refl

-- those of a vehicle
pub vehicle_rows_shown : (vid from to : ℕ) (o : Office) (old new : State) (found : List Row) → HasOffice old.now o →
    Shown list_vehicle (Int (pos vid) ∷ Int (pos from) ∷ Int (pos to) ∷ []) old new found
    → found ≡ map spent_row (vehicle_rows_between o vid from to)
vehicle_rows_shown vid from to o old new found has shown =
    let params = Int (pos vid) ∷ Int (pos from) ∷ Int (pos to) ∷ [] in
    let read = reads_as list_vehicle params old new all_tables has.tables.schema _ list_vehicle_is list_vehicle_plain.0
    list_vehicle_plain.1 found shown in
    amounts_answer vehicle_query.filter params (λ r. r.vid == vid && (nat_le from r.day && nat_le r.day to))
    (λ r. ap₂ ◌&&◌ (same_numbers r.vid vid)
    (ap₂ ◌&&◌ (at_least r.day from) (ap (λ b. b && true) (at_most r.day to) ∙ last_true (nat_le r.day to))))
    (λ r. cut r)
    o.rows _ found has.sound.rows_rise has.tables.rows_are read.answer
  where
    cut : (r : Row) → passes vehicle_query.filter (Int (pos vid) ∷ Int (pos from) ∷ Int (pos to) ∷ []) r
        ≡ passes vehicle_query.filter (Int (pos vid) ∷ Int (pos from) ∷ Int (pos to) ∷ []) (Null ∷ drop 1 r)
    cut [] = refl
    cut (x ∷ xs) = refl

-- ---- tariffs in the order of expressways

-- what the query for the tariffs makes of one
abbrev tariff_out : ℕ × Tariff → Output
tariff_out e = output tariffs_query ([] ∷ tariff_row e ∷ [])

-- which stands in the order of expressways
tariff_keys : (a b : ℕ × Tariff) → output_cmp tariffs_query (tariff_out a) (tariff_out b) ≡ nat_cmp a.0 b.0
tariff_keys a b = last_key (by_number a.0 b.0)

-- the tariffs that an office keeps
pub tariffs_shown : (o : Office) (old new : State) (found : List Row) → HasOffice old.now o →
    Shown find_tariffs [] old new found → found ≡ map tariff_columns o.tariffs
tariffs_shown o old new found has shown =
    let read : Reads tariffs_compiled old.now [] found =
    reads_as find_tariffs [] old new all_tables has.tables.schema tariffs_compiled find_tariffs_is
    find_tariffs_plain.0 find_tariffs_plain.1 found shown in
    let rows = map tariff_row o.tariffs in
    let all : filter (passes [] []) (old.now.trees 5) ≡ rows =
    filter_all (passes [] []) (old.now.trees 5) (all_of (λ r. passes [] [] r ≡ true) (λ _. refl) (old.now.trees 5))
    ∙ has.tables.tariffs_are in
    let outs : map tariff_out o.tariffs ≡ map (λ (r : Row). output tariffs_query ([] ∷ r ∷ []))
    (filter (passes [] []) (old.now.trees 5)) =
    sym (map-map (λ (r : Row). output tariffs_query ([] ∷ r ∷ [])) tariff_row o.tariffs)
    ∙ ap (map (λ (r : Row). output tariffs_query ([] ∷ r ∷ []))) (sym all) in
    let up = ascending-map (λ x y. output_cmp tariffs_query x y ≡ Less) tariff_out o.tariffs
    (ascending_weaker (λ a b. nat_cmp a.0 b.0 ≡ Less)
    (λ a b. output_cmp tariffs_query (tariff_out a) (tariff_out b) ≡ Less) (λ a b less. tariff_keys a b ∙ less)
    o.tariffs
    (ascending_from_map (λ m n. nat_cmp m n ≡ Less) (λ (e : ℕ × Tariff). e.0) o.tariffs
    (ascends nat_cmp (keys_of o.tariffs) has.sound.tariffs.in_order))) in
    ordered_by 5 [] tariffs_query.project tariffs_query.order _ [] found (map tariff_out o.tariffs)
    (subst (IsPermutation (map tariff_out o.tariffs)) outs (IsPermutation-refl (map tariff_out o.tariffs))) up
    read.answer
    ∙ map-map (λ (p : Output). p.1) tariff_out o.tariffs
