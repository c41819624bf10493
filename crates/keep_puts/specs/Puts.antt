-- What a put makes of trees, whatever these held.
use Rattle.std.specs.Prelude.{◌≡◌, ◌⊎◌, ◌+ℤ◌, ℕ, ℤ, pos, Bool, Result, IfOk, List, [], ◌∷◌, ◌++◌}
use Rattle.std.specs.Prelude.{if◌then◌else◌}
use Rattle.sqlite_value.specs.Order.{Row}
use Rattle.sqlite_value.specs.Keys.{plain}
use Rattle.sqlite_trees.specs.declared.error.StoreError.{StoreError}
use Rattle.sqlite_trees.specs.declared.store.Store.{Ghosts}
use Rattle.sqlite_trees.specs.Tree.{Trees, put_row, without_rowid, insert_entry}
use Rattle.sqlite_trees.specs.View.{IsClean}
use Rattle.sqlite_sql.specs.Catalog.{entry_of}
use Rattle.road_time.specs.declared.day.SpentRow.{SpentRow}
use Rattle.road_time.specs.declared.tariff.Tariff.{Tariff}
use Rattle.road_time.specs.Rates.{benchmark, same_tariff}
use Rattle.keep_office.specs.declared.kept.DayRecord.{DayRecord}
use Rattle.keep_office.specs.declared.kept.PastRecord.{PastRecord}
use Rattle.keep_tables.specs.Codec.{day_row, seal_row, past_row, tariff_row}
use Rattle.keep_puts.specs.Trees.{key_columns}
use Rattle.keep_puts.specs.Steps.{IfDone, Joins, AreBelow, numbered}
use Rattle.keep_puts.specs.Clears.{ClearsAll}

-- the rows of amounts under the numbers from one on
abbrev pub numbered_from : ℤ → List SpentRow → List Row
numbered_from n [] = []
numbered_from n (r ∷ rows) = numbered n r ∷ numbered_from (n +ℤ pos 1) rows

-- entries, and those of rows that joined them one after another
abbrev pub entries_with : List Row → List Row → List Row
entries_with [] entries = entries
entries_with (row ∷ rows) entries = entries_with rows (insert_entry plain (entry_of key_columns row) entries)

-- amounts' rows came behind those of their table, under the numbers from one on, their entries joined the index, and the
-- other trees are as they were
pub record PutsFrom (first : ℤ) (rows : List SpentRow) (old new : Trees) : Type 0 where
  pub table : new 1 ≡ old 1 ++ numbered_from first rows
  pub index : new 2 ≡ entries_with (numbered_from first rows) (old 2)
  pub others : (t : ℕ) → (t ≡ 1 → ⊥) → (t ≡ 2 → ⊥) → new t ≡ old t

-- so amounts were put, under numbers above all that were there
pub record PutsAmounts (rows : List SpentRow) (old new : Trees) : Type 0 where
  pub first : ℤ
  pub above : AreBelow first (old 1)
  pub puts : PutsFrom first rows old new

-- a day's record joined the first table, its seal that of the seals, and its amounts theirs and the index
pub record PutsDay (r : DayRecord) (rows : List SpentRow) (old new : Trees) : Type 0 where
  pub recorded : Trees
  pub sealed : Trees
  pub record_joins : Joins 0 (day_row r) (pos r.day) old recorded
  pub seal_joins : Joins 4 (seal_row r) (pos r.day) recorded sealed
  pub amounts : PutsAmounts rows sealed new

-- a history's record joined its table, and its amounts theirs and the index
pub record PutsPast (p : PastRecord) (rows : List SpentRow) (old new : Trees) : Type 0 where
  pub recorded : Trees
  pub record_joins : Joins 3 (past_row p) (pos 1) old recorded
  pub amounts : PutsAmounts rows recorded new

-- all trees but that of the tariffs were emptied, and a history was put then
pub record PutsAnew (p : PastRecord) (rows : List SpentRow) (old new : Trees) : Type 0 where
  pub emptied : Trees
  pub clears : ClearsAll old emptied
  pub puts : PutsPast p rows emptied new

-- one tree was edited, and the others are as they were
pub record Edits (tree : ℕ) (edit : List Row → List Row) (old new : Trees) : Type 0 where
  pub rows : new tree ≡ edit (old tree)
  pub others : (t : ℕ) → (t ≡ tree → ⊥) → new t ≡ old t

-- the rows of tariffs with one in place of the expressway's own: the benchmark's only takes that away
abbrev pub rows_with : ℕ → Tariff → List Row → List Row
rows_with xway t rows =
    if same_tariff t benchmark then without_rowid (pos xway) rows else put_row (tariff_row (xway, t))
    (without_rowid (pos xway) rows)

-- of the tariffs that of one expressway alone was changed, and of the trees that of the tariffs
abbrev pub PutsTariff : ℕ → Tariff → Trees → Trees → Type 0
PutsTariff xway t = Edits 5 (rows_with xway t)

-- a put that is done commits what it makes of the trees; a crash finds what it found before, or that
pub record Writes {S : Type 0} (g : Ghosts S) (makes : Trees → Trees → Type 0) (old new : S)
    (result : Result Bool StoreError) : Type 0 where
  pub done : IsClean (g.view new) → IfOk result (λ done. IfDone done
      (makes (g.view old).committed (g.view new).committed))
  pub crash : (db : Trees) → g.recovers new db → makes (g.view old).committed db ⊎ g.recovers old db
