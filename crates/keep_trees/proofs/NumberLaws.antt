-- What a batch that was filled from a number on, or up to one, tells of the numbers of all rows.
use Rattle.std.proofs.Common.{◌≡◌, ◌↔◌, ◌<◌, ◌^◌, ℕ, ℤ, pos, negsuc, true, List, [], ◌∷◌, ◌++◌, map, refl}
use Rattle.std.proofs.Common.{sym, ap, ap₂, ◌∙◌, arith, is_lt, is_gt, int_cmp, IsTrue, inl, inr}
use Rattle.std.specs.List.{AllByRecursion}
use Rattle.std.proofs.lemmas.Bool.{cases_Bool}
use Rattle.std.proofs.lemmas.Bool.Decides.{nat_tests}
use Rattle.std.proofs.lemmas.Int.{ints}
use Rattle.sqlite_pages.specs.PageMap.{PageMap}
use Rattle.sqlite_value.specs.declared.value.Value.TheVariants.{Null, Int, Real, Text, Blob}
use Rattle.sqlite_value.specs.Order.{Row}
use Rattle.sqlite_value.specs.Keys.{plain, prefix_cmp}
use Rattle.sqlite_value.proofs.OrderLemmas.{value_cmp-Int}
use Rattle.sqlite_btree.specs.Chain.{Layout, Entry}
use Rattle.sqlite_btree.specs.Cut.{from_cut, before_cut}
use Rattle.sqlite_btree.specs.Batch.{IsFilled, IsFilledBack, left_in}
use Rattle.sqlite_btree.specs.Stored.{as_row, by_rowid, up_to_rowid, IsTable as IsTableAt, IsLaidIn}
use Rattle.sqlite_btree.specs.declared.batch.Batch.{Batch}
use Rattle.sqlite_trees.specs.declared.store.Shape.TheVariants.{Table}
use Rattle.sqlite_trees.specs.Tree.{rowid, from_key, up_to_key}
use Rattle.sqlite_trees.specs.View.{is_int, IsShaped}
use Rattle.sqlite_trees.proofs.TreeLemmas.{prefix_cmp_follows, prefix_cmp-one, IsSortedTree, sorted_table}
use Rattle.sqlite_keyed.proofs.ListLemmas.{all_weaker}
use Rattle.sqlite_store.specs.Db.{table_row, rows_at}
use Rattle.sqlite_store.proofs.DbLemmas.{table_reads}
use Rattle.sqlite_store.proofs.RowLemmas.{Raw, from_key-map, up_to_key-map, key_side, key_side_back}
use Rattle.road_time.specs.declared.tariff.Tariff.{Tariff}
use Rattle.road_time.specs.Rates.{Tariffs}
use Rattle.keep_tables.specs.Codec.{tariff_row}
use Rattle.keep_trees.specs.Finds.{EndBefore, BeginAfter}
use Rattle.keep_trees.specs.Tells.{HasXway}

-- what is read of nothing is nothing
no_raw : (rows : List Raw) → map table_row rows ≡ [] → rows ≡ []
no_raw [] h = refl
no_raw (row ∷ rows) h = absurd (cc)

-- nor does a batch that gives nothing have anything
no_entries : (es : List Entry) (rest : List Raw) → map as_row es ++ rest ≡ [] → es ≡ []
no_entries [] rest h = refl
no_entries (e ∷ es) rest h = absurd (cc)

-- also behind others
none_behind : (front : List Raw) (es : List Entry) → front ++ map as_row es ≡ [] → es ≡ []
none_behind [] es h = no_entries es [] (ap (λ (l : List Raw). l ++ []) h)
none_behind (row ∷ front) es h = absurd (cc)

module _ {size root : ℕ} {layout : Layout} {raw : List Raw} (pages : PageMap) (batch : Batch) (number : ℤ)
    (laid : IsLaidIn layout pages) (table : IsTableAt size layout root raw) where
  -- a batch that was filled from a number on is empty exactly where the rows end before it
  pub ends_where : IsFilled as_row (from_cut (by_rowid number) raw) layout size pages batch
      → (left_in pages batch ≡ []) ↔ EndBefore (rows_at size pages Table root) number
  ends_where filled =
      let reads = table_reads pages laid table in
      let same : map table_row (from_cut (by_rowid number) raw) ≡ from_key plain (Int number ∷ []) (map table_row raw) =
      from_key-map table_row (by_rowid number) plain (Int number ∷ []) (key_side number) raw in (
        λ none.
            ap (from_key plain (Int number ∷ [])) reads ∙ sym same
            ∙ ap (map table_row) (filled.parts
            ∙ ap₂ (λ (l : List Entry) (r : List Raw). map as_row l ++ r) none (filled.ends none)),
        λ ends.
            no_entries (left_in pages batch) filled.rest
            (sym filled.parts
            ∙ no_raw _ (same ∙ ap (from_key plain (Int number ∷ [])) (sym reads) ∙ ends)),
      )

  -- and one that was filled up to a number exactly where they begin after it
  pub begins_where : IsFilledBack as_row (before_cut (up_to_rowid number) raw) layout size pages batch
      → (left_in pages batch ≡ []) ↔ BeginAfter (rows_at size pages Table root) number
  begins_where filled =
      let reads = table_reads pages laid table in
      let same : map table_row (before_cut (up_to_rowid number) raw)
      ≡ up_to_key plain (Int number ∷ []) (map table_row raw) =
      up_to_key-map table_row (up_to_rowid number) plain (Int number ∷ []) (key_side_back number) raw in (
        λ none.
            ap (up_to_key plain (Int number ∷ [])) reads ∙ sym same
            ∙ ap (map table_row) (filled.parts
            ∙ ap₂ (λ (f : List Raw) (l : List Entry). f ++ map as_row l) (filled.ends none) none),
        λ begins.
            none_behind filled.front (left_in pages batch)
            (sym filled.parts
            ∙ no_raw _ (same ∙ ap (up_to_key plain (Int number ∷ [])) (sym reads) ∙ begins)),
      )

-- an entry is below a number
abbrev IsBelow : ℤ → Row → Type 0
IsBelow n row = is_lt (prefix_cmp plain row (Int n ∷ [])) ≡ true

-- an entry is above a number
abbrev IsAbove : ℤ → Row → Type 0
IsAbove n row = is_gt (prefix_cmp plain row (Int n ∷ [])) ≡ true

-- rows that end before a number are below it
all_below : (n : ℤ) (rows : List Row) → EndBefore rows n → AllByRecursion (IsBelow n) rows
all_below n [] ends = tt
all_below n (row ∷ rows) ends =
    elim (cases_Bool (is_lt (prefix_cmp plain row (Int n ∷ [])))) [
      | inl low ↦ (low, all_below n rows (rw low at ends))
      | inr high ↦ absurd (let bad = rw high at ends in cc)
    ]

-- rows that rise and begin after a number are above it
all_above : (n : ℤ) (rows : List Row) → IsSortedTree plain rows → BeginAfter rows n → AllByRecursion (IsAbove n) rows
all_above n [] up begins = tt
all_above n (row ∷ rows) up begins =
    elim (cases_Bool (is_gt (prefix_cmp plain row (Int n ∷ [])))) [
      | inl high ↦ (
        high,
        all_weaker _ (IsAbove n) (λ next most. (prefix_cmp_follows plain (Int n ∷ []) row next most).1 high) rows up.0,
      )
      | inr low ↦ absurd (let bad = rw low at begins in cc)
    ]

-- a number between -1 and 256 is an expressway's
is_xway : (z : ℤ) → is_lt (int_cmp z (pos 256)) ≡ true → is_gt (int_cmp z (negsuc 0)) ≡ true
    → (xway : ℕ) × (Int z ≡ Int (pos xway)) × (xway < 256)
is_xway (pos n) low high = (n, refl, grind (arith, ints, nat_tests, low))
is_xway (negsuc n) low high = absurd (grind (arith, ints, nat_tests, high))

-- so is a row's
has_xway : (row : Row) → IsTrue (is_int (rowid row)) → IsBelow (pos 256) row → IsAbove (negsuc 0) row → HasXway row
has_xway [] whole low high = absurd (cc)
has_xway (Null ∷ row) whole low high = absurd (cc)
has_xway (Real x ∷ row) whole low high = absurd (cc)
has_xway (Text x ∷ row) whole low high = absurd (cc)
has_xway (Blob x ∷ row) whole low high = absurd (cc)
has_xway (Int z ∷ row) whole low high =
    is_xway z (sym (ap is_lt (prefix_cmp-one (Int z) row (Int (pos 256)) ∙ value_cmp-Int z (pos 256))) ∙ low)
    (sym (ap is_gt (prefix_cmp-one (Int z) row (Int (negsuc 0)) ∙ value_cmp-Int z (negsuc 0))) ∙ high)

-- rows that begin after -1 and end before 256 have the numbers of expressways
pub all_xways : (rows : List Row) → IsShaped Table rows → BeginAfter rows (negsuc 0) → EndBefore rows (pos 256)
    → AllByRecursion HasXway rows
all_xways rows shaped begins ends =
    each rows shaped.1 (all_below (pos 256) rows ends) (all_above (negsuc 0) rows (sorted_table rows shaped.0) begins)
  where
    each : (l : List Row) → AllByRecursion (λ (r : Row). IsTrue (is_int (rowid r))) l
        → AllByRecursion (IsBelow (pos 256)) l → AllByRecursion (IsAbove (negsuc 0)) l → AllByRecursion HasXway l
    each [] whole low high = tt
    each (row ∷ l) whole low high = (has_xway row whole.0 low.0 high.0, each l whole.1 low.1 high.1)

-- what a row of a tariff has behind its number
abbrev fare_columns : Tariff → Row
fare_columns t = Null ∷ Int (pos t.crowd) ∷ Int (pos t.speed) ∷ Int (pos t.factor) ∷ []

-- the rows of tariffs of expressways end before 256
pub tariffs_end : (ts : Tariffs) → AllByRecursion (λ e. e.0 < 2 ^ 8) ts → EndBefore (map tariff_row ts) (pos 256)
tariffs_end [] fit = refl
tariffs_end (e ∷ ts) fit =
    let low : IsBelow (pos 256) (tariff_row e) =
    ap is_lt (prefix_cmp-one (Int (pos e.0)) (fare_columns e.1) (Int (pos 256)) ∙ value_cmp-Int (pos e.0) (pos 256))
    ∙ under e.0 fit.0 in
    rw low (tariffs_end ts fit.1)
  where
    under : (n : ℕ) → n < 2 ^ 8 → is_lt (int_cmp (pos n) (pos 256)) ≡ true
    under n low = grind (arith, ints, nat_tests, low)

-- and begin after -1
pub tariffs_begin_after : (ts : Tariffs) → BeginAfter (map tariff_row ts) (negsuc 0)
tariffs_begin_after [] = refl
tariffs_begin_after (e ∷ ts) =
    let high : IsAbove (negsuc 0) (tariff_row e) =
    ap is_gt (prefix_cmp-one (Int (pos e.0)) (fare_columns e.1) (Int (negsuc 0)) ∙ value_cmp-Int (pos e.0) (negsuc 0))
    ∙ over e.0 in
    rw high refl
  where
    over : (n : ℕ) → is_gt (int_cmp (pos n) (negsuc 0)) ≡ true
    over n = grind (arith, ints, nat_tests)
