-- What six tables are told to hold is what they hold.
use Rattle.std.proofs.Common.{◌≡◌, ◌+◌, Bool, true, false, cond, List, [], ◌∷◌, map, drop, get_or, Option, Some, None}
use Rattle.std.proofs.Common.{refl, sym, ap, ap₂, subst, ◌∙◌, arith, IsPermutation, IsSorted}
use Rattle.std.specs.Coded.{coded_list}
use Rattle.std.specs.List.{IsDistinct, AllByRecursion}
use Rattle.std.specs.declared.cmp.Ordering.{Ordering}
use Rattle.std.specs.declared.cmp.Ordering.TheVariants.{Less, Equal, Greater}
use Rattle.std.specs.Ordering.{eq_by_cmp, is_eq, is_lt, ordering_reverse}
use Rattle.std.proofs.lemmas.Bool.{and_parts}
use Rattle.std.proofs.lemmas.List.Sorted.{IsPermutation-map, IsPermutation-sym, All-permutation}
use Rattle.std.proofs.lemmas.List.Elements.{recursion_from_All, All-from_recursion}
use Rattle.std.proofs.lemmas.Map.Keys.{IsDistinct-IsPermutation, IsDistinct-from_sorted, Less-from_sorted}
use Rattle.sqlite_value.specs.declared.value.Value.TheVariants.{Null}
use Rattle.sqlite_value.specs.Order.{Row}
use Rattle.sqlite_value.specs.contracts.row.Row as row
use Rattle.sqlite_trees.specs.Tree.{IsAscending}
use Rattle.sqlite_schema.specs.contracts.schema.Schema as schema
use Rattle.sqlite_keyed.proofs.ListLemmas.{map-map, map_back, map_same}
use Rattle.sqlite_keyed.proofs.SortLemmas.{IsPermutation-sort_by, sorted_is-sort_by}
use Rattle.sqlite.specs.Effect.{Database}
use Rattle.road_time.specs.declared.day.SpentRow.{SpentRow}
use Rattle.keep_office.specs.declared.kept.DayRecord.{DayRecord}
use Rattle.keep_office.specs.declared.kept.PastRecord.{PastRecord}
use Rattle.keep_office.specs.Office.{Office, RowsRise, row_cmp}
use Rattle.keep_office.proofs.RowOrder.{row_total}
use Rattle.keep_tables.specs.Layout.{all_tables}
use Rattle.keep_tables.specs.Same.{same}
use Rattle.keep_tables.specs.Codec.{day_row, seal_row, spent_row, tariff_row, version_row, spent_from, tariff_from}
use Rattle.keep_tables.specs.Stands.{HasOffice, AreAmountRows, past_rows}
use Rattle.keep_tables.specs.Tests.{is_sound, fits_fields}
use Rattle.keep_tables.specs.Told.{whole_in, holds_all, all_in, days_from, past_record_in, amounts_in, are_amounts}
use Rattle.keep_tables.proofs.SameLaws.{same_is, same_if}
use Rattle.keep_tables.proofs.TestLaws.{fields_are, fields_if, sound_is, sound_if, both}

-- rows that are amounts are those that are read of them
pub rows_held : (kept : List Row) → are_amounts kept ≡ true → AreAmountRows (amounts_in kept) kept
rows_held kept are =
    let stored = same_is (coded_list row.the_row.coded) (map (drop 1) kept) (map spent_row (map spent_from kept)) are in
    subst (IsPermutation (map spent_row (amounts_in kept))) (sym stored)
    (IsPermutation-map spent_row _ _ (IsPermutation-sort_by row_cmp row_total (map spent_from kept)))

-- tables that pass the tests hold an office
held : (db : Database) → db.schema ≡ all_tables → holds_all db ≡ true → HasOffice db (all_in db)
held db tables h =
    let a = and_parts _ _ h in
    let b = and_parts _ _ a.1 in
    let c = and_parts _ _ b.1 in
    let d = and_parts _ _ c.1 in
    let e = and_parts _ _ d.1 in
    let f = and_parts _ _ e.1 in
    let g = and_parts _ _ f.1 in
    record {
      tables = record {
        schema = tables;
        days_are = same_is (coded_list row.the_row.coded) _ _ a.0;
        rows_are = rows_held (db.trees 1) b.0;
        past_is = same_is (coded_list row.the_row.coded) _ _ c.0;
        seals_are = same_is (coded_list row.the_row.coded) _ _ d.0;
        tariffs_are = same_is (coded_list row.the_row.coded) _ _ e.0;
        version = same_is (coded_list row.the_row.coded) _ _ f.0;
      };
      fits = fields_are (all_in db) g.0;
      sound = sound_is (all_in db) g.1;
    }

-- tables hold the office that is told of them
pub held_if_told : (db : Database) (o : Office) → whole_in db ≡ Some o → HasOffice db o
unfolding whole_in
held_if_told db o told = first (same schema.the_row.coded db.schema all_tables) refl told
  where
    second : db.schema ≡ all_tables → (b : Bool) → holds_all db ≡ b → cond b (Some (all_in db)) None ≡ Some o →
        HasOffice db o
    second tables true is e = let it : all_in db ≡ o = cc in subst (HasOffice db) it (held db tables is)
    second tables false is e = absurd (cc)

    first : (b : Bool) → same schema.the_row.coded db.schema all_tables ≡ b →
        cond b (cond (holds_all db) (Some (all_in db)) None) None ≡ Some o → HasOffice db o
    first true is e = second (same_is schema.the_row.coded db.schema all_tables is) (holds_all db) refl e
    first false is e = absurd (cc)

-- days are read back from their rows and seals
days_back : (ds : List DayRecord) → days_from (map day_row ds) (map seal_row ds) ≡ ds
days_back [] = refl
days_back (d ∷ ds) = ap (λ l. d ∷ l) (days_back ds)

-- so is a history
pub past_back : (p : Option PastRecord) → past_record_in (past_rows p) ≡ p
past_back None = refl
past_back (Some p) = refl

-- being tied is mutual
flips : (x y : SpentRow) → eq_by_cmp row_cmp x y ≡ eq_by_cmp row_cmp y x
flips x y = ap is_eq (row_total.antisymm x y) ∙ turned (row_cmp y x)
  where
    turned : (o : Ordering) → is_eq (ordering_reverse o) ≡ is_eq o
    turned Less = refl
    turned Equal = refl
    turned Greater = refl

-- amounts with keys of their own are apart
apart : (xs : List SpentRow) → IsDistinct (eq_by_cmp row_cmp) xs → IsAscending (λ a b. is_eq (row_cmp a b) ≡ false) xs
unfolding IsDistinct
apart [] h = tt
apart (x ∷ xs) h = (h.0, apart xs h.1)

-- amounts that rise are sorted
in_order : (rows : List SpentRow) → RowsRise rows → IsSorted row_cmp rows
in_order rows up k d low high =
    let less = Less-from_sorted row_cmp rows k (k + 1) d up (omega arith) (omega (arith, high)) in
    ap is_lt (row_total.antisymm (get_or rows (k + 1) d) (get_or rows k d) ∙ ap ordering_reverse less)

-- amounts that are kept in any order are found in order
pub rows_back : (rows : List SpentRow) (kept : List Row) → RowsRise rows → AreAmountRows rows kept → amounts_in kept ≡
    rows
rows_back rows kept up are =
    let back = λ (columns : Row). spent_from (Null ∷ columns) in
    let blind : (r : Row) → back (drop 1 r) ≡ spent_from r = λ r. cut r in
    let found : IsPermutation rows (map spent_from kept) =
    subst (λ l. IsPermutation l (map spent_from kept)) (map_back spent_row back (λ _. refl) rows)
    (subst (IsPermutation (map back (map spent_row rows))) (map-map back (drop 1) kept ∙ map_same _ _ blind kept)
    (IsPermutation-map back _ _ are)) in
    let differ =
    apart (map spent_from kept)
    (IsDistinct-IsPermutation (eq_by_cmp row_cmp) flips rows (map spent_from kept) found
    (IsDistinct-from_sorted row_cmp rows up)) in
    sym (sorted_is-sort_by row_cmp row_total (map spent_from kept) rows differ (IsPermutation-sym _ _ found)
    (in_order rows up))
  where
    cut : (r : Row) → spent_from (Null ∷ drop 1 r) ≡ spent_from r
    cut [] = refl
    cut (x ∷ xs) = refl

-- columns are those of the amount that they give
abbrev IsColumns : Row → Type 0
IsColumns columns = columns ≡ spent_row (spent_from (Null ∷ columns))

-- an amount is read of the columns alone
blind : (r : Row) → spent_from (Null ∷ drop 1 r) ≡ spent_from r
blind [] = refl
blind (x ∷ xs) = refl

-- the columns of amounts are such
each_columns : (rows : List SpentRow) → AllByRecursion IsColumns (map spent_row rows)
each_columns [] = tt
each_columns (r ∷ rows) = (refl, each_columns rows)

-- rows with such columns are stored as what is read of them
all_columns : (kept : List Row) → AllByRecursion IsColumns (map (drop 1) kept) →
    map (drop 1) kept ≡ map spent_row (map spent_from kept)
all_columns [] all = refl
all_columns (r ∷ kept) all = ap₂ (λ x xs. x ∷ xs) (all.0 ∙ ap spent_row (blind r)) (all_columns kept all.1)

-- so are the rows that keep amounts
pub stored_so : (rows : List SpentRow) (kept : List Row) → AreAmountRows rows kept →
    map (drop 1) kept ≡ map spent_row (map spent_from kept)
stored_so rows kept are =
    all_columns kept
    (recursion_from_All IsColumns (map (drop 1) kept)
    (All-permutation IsColumns (map spent_row rows) (map (drop 1) kept) are
    (All-from_recursion IsColumns (map spent_row rows) (each_columns rows))))

-- the office that tables hold is told of them
pub told_if_held : (db : Database) (o : Office) → HasOffice db o → whole_in db ≡ Some o
unfolding whole_in
told_if_held db o has =
    let days = ap₂ days_from has.tables.days_are has.tables.seals_are ∙ days_back o.days in
    let rows = rows_back o.rows (db.trees 1) has.sound.rows_rise has.tables.rows_are in
    let history = ap past_record_in has.tables.past_is ∙ past_back o.past in
    let rates = ap (map tariff_from) has.tables.tariffs_are ∙ map_back tariff_row tariff_from (λ _. refl) o.tariffs in
    let it : all_in db ≡ o = λ i. record { days = days i; rows = rows i; past = history i; tariffs = rates i } in
    let code = coded_list row.the_row.coded in
    let holds : holds_all db ≡ true =
    both (same_if code (db.trees 0) (map day_row (all_in db).days) (has.tables.days_are ∙ ap (map day_row) (sym days)))
    (both (same_if code (map (drop 1) (db.trees 1)) (map spent_row (map spent_from (db.trees 1)))
    (stored_so o.rows (db.trees 1) has.tables.rows_are))
    (both (same_if code (db.trees 3) (past_rows (all_in db).past) (has.tables.past_is ∙ ap past_rows (sym history)))
    (both (same_if code (db.trees 4) (map seal_row (all_in db).days)
    (has.tables.seals_are ∙ ap (map seal_row) (sym days)))
    (both (same_if code (db.trees 5) (map tariff_row (all_in db).tariffs)
    (has.tables.tariffs_are ∙ ap (map tariff_row) (sym rates)))
    (both (same_if code (db.trees 6) (version_row ∷ []) has.tables.version)
    (both (subst (λ (p : Office). fits_fields p ≡ true) (sym it) (fields_if o has.fits))
    (subst (λ (p : Office). is_sound p ≡ true) (sym it) (sound_if o has.sound)))))))) in
    rw (same_if schema.the_row.coded db.schema all_tables has.tables.schema, holds, it) refl
