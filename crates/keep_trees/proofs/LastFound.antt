-- What the last row of the table of days tells.
use Rattle.std.proofs.Common.{◌≡◌, ℕ, ℤ, pos, ◌^◌, ◌-◌, List, [], ◌∷◌, ◌++◌, map, None, sym, ap, ap₂}
use Rattle.std.proofs.Common.{◌∙◌, append_assoc}
use Rattle.std.proofs.lemmas.List.{map-append}
use Rattle.sqlite_value.specs.declared.value.Value.TheVariants.{Int}
use Rattle.sqlite_value.specs.Order.{Row, column}
use Rattle.sqlite_pages.specs.PageMap.{PageMap}
use Rattle.sqlite_btree.specs.Chain.{Layout, Entry}
use Rattle.sqlite_btree.specs.Cut.{before_cut}
use Rattle.sqlite_btree.specs.Batch.{IsFilledBack, left_in, taken}
use Rattle.sqlite_btree.specs.Stored.{as_row, up_to_rowid, rowid_of, IsTable, IsLaidIn}
use Rattle.sqlite_btree.specs.declared.batch.Batch.{Batch}
use Rattle.sqlite_trees.specs.declared.store.Shape.TheVariants.{Table}
use Rattle.sqlite_store.specs.Db.{table_row, rows_at}
use Rattle.sqlite_store.proofs.RowLemmas.{up_to_most}
use Rattle.sqlite_store.proofs.DbLemmas.{table_reads, all_fit}
use Rattle.keep_office.specs.declared.kept.DayRecord.{DayRecord}
use Rattle.keep_tables.specs.Codec.{day_row}
use Rattle.keep_trees.specs.Days.{IsLastDay}
use Rattle.keep_trees.proofs.DayFound.{last_row, no_rows}

module _ {size root : ℕ} {layout : Layout} {raw : List (ℤ × List ℕ)} (pages : PageMap) (old : Batch)
    (laid : IsLaidIn layout pages) (table : IsTable size layout root raw)
    (most : ℤ) (most_is : most ≡ pos (2 ^ 63 - 1))
    (filled : IsFilledBack as_row (before_cut (up_to_rowid most) raw) layout size pages old) where
  -- up to the greatest number there are all rows
  all_parts : raw ≡ filled.front ++ map as_row (left_in pages old)
  all_parts =
      sym (up_to_most raw (all_fit table)) ∙ ap (λ n. before_cut (up_to_rowid n) raw) (sym most_is) ∙ filled.parts

  -- where none is found, there are no rows
  pub none_there : left_in pages old ≡ [] → rows_at size pages Table root ≡ []
  none_there e =
      let nothing : raw ≡ [] = all_parts
      ∙ ap₂ (λ (f : List (ℤ × List ℕ)) (l : List Entry). f ++ map as_row l) (filled.ends e) e in
      table_reads pages laid table ∙ ap (map table_row) nothing

  -- the row that is found is the last of all
  pub last_there : (new : Batch) → left_in pages old ≡ left_in pages new ++ taken new ∷ [] →
      (front : List Row) × (rows_at size pages Table root ≡ front ++ table_row (as_row (taken new)) ∷ [])
  last_there new e =
      let front = filled.front ++ map as_row (left_in pages new) in
      let ends : raw ≡ front ++ as_row (taken new) ∷ [] =
      all_parts ∙ ap (λ (l : List Entry). filled.front ++ map as_row l) e
      ∙ ap (λ l. filled.front ++ l) (map-append as_row (left_in pages new) (taken new ∷ []))
      ∙ sym (append_assoc filled.front (map as_row (left_in pages new)) (as_row (taken new) ∷ [])) in (
        map table_row front,
        table_reads pages laid table ∙ ap (map table_row) ends
            ∙ map-append table_row front (as_row (taken new) ∷ []),
      )

  module _ (days : List DayRecord) (are : rows_at size pages Table root ≡ map day_row days) where
    -- where no row is found, there are no days
    pub none_found : left_in pages old ≡ [] → IsLastDay days None
    none_found e = no_rows days (sym are ∙ none_there e)

    -- the row that is found is that of the last day
    pub record Last (new : Batch) : Type 0 where
      pub before : List DayRecord
      pub last : DayRecord
      pub split : days ≡ before ++ last ∷ []
      pub number : rowid_of (taken new).key ≡ pos last.day

    -- such a row is the last of all
    pub last_found : (new : Batch) → left_in pages old ≡ left_in pages new ++ taken new ∷ [] → Last new
    last_found new e =
        let there = last_there new e in
        let r = last_row days there.0 (table_row (as_row (taken new))) (sym are ∙ there.1) in
        record {
          before = r.0;
          last = r.1;
          split = r.2;
          number = (let n : Int (rowid_of (taken new).key) ≡ Int (pos r.1.day) = ap (λ (z : Row). column z 0) r.3 in cc);
        }
