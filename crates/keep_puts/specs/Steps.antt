-- What the steps of a put make of trees.
use Rattle.std.specs.Prelude.{◌≡◌, ℕ, ℤ, pos, Bool, true, false, List, [], ◌∷◌, ◌++◌, filter}
use Rattle.std.specs.declared.cmp.Ordering.TheVariants.{Less}
use Rattle.std.specs.List.{AllByRecursion}
use Rattle.sqlite_value.specs.declared.value.Value.TheVariants.{Int}
use Rattle.sqlite_value.specs.Order.{Row, value_cmp}
use Rattle.sqlite_value.specs.Keys.{plain, prefix_cmp}
use Rattle.sqlite_trees.specs.Tree.{Trees, rowid, has_rowid, put_row, insert_entry}
use Rattle.sqlite_sql.specs.Catalog.{entry_of, IsIndexOf}
use Rattle.road_time.specs.declared.day.SpentRow.{SpentRow}
use Rattle.keep_office.specs.declared.kept.DayRecord.{DayRecord}
use Rattle.keep_tables.specs.Codec.{spent_row}
use Rattle.keep_tables.specs.Steps.{AddsAmounts}
use Rattle.keep_puts.specs.Trees.{database_of, key_columns}

-- what holds where a step was done
abbrev pub IfDone : Bool → Type 0 → Type 0
IfDone true P = P
IfDone false P = Unit {0}

-- a row joined a table in which none had its number, and the other trees are as they were
pub record Joins (tree : ℕ) (row : Row) (number : ℤ) (old new : Trees) : Type 0 where
  pub free : filter (has_rowid number) (old tree) ≡ []
  pub rows : new tree ≡ put_row row (old tree)
  pub others : (t : ℕ) → (t ≡ tree → ⊥) → new t ≡ old t

-- all numbers of rows are below one
abbrev pub AreBelow : ℤ → List Row → Type 0
AreBelow number rows = AllByRecursion (λ r. value_cmp (rowid r) (Int number) ≡ Less) rows

-- an amount's row, under a number
abbrev pub numbered : ℤ → SpentRow → Row
numbered number r = Int number ∷ spent_row r

-- an amount's row joined its table under a number, its entry the index, and the other trees are as they were
pub record PutsBoth (number : ℤ) (r : SpentRow) (old new : Trees) : Type 0 where
  pub row : new 1 ≡ put_row (numbered number r) (old 1)
  pub entry : new 2 ≡ insert_entry plain (entry_of key_columns (numbered number r)) (old 2)
  pub others : (t : ℕ) → (t ≡ 1 → ⊥) → (t ≡ 2 → ⊥) → new t ≡ old t

-- amounts joined their table, and the index lists them too
pub record AddsKept (old new : Trees) (more : List SpentRow) : Type 0 where
  pub adds : AddsAmounts (database_of old) (database_of new) more
  pub indexed : IsIndexOf key_columns (old 1) (old 2) → IsIndexOf key_columns (new 1) (new 2)

-- the key of an amount
abbrev pub key_of : SpentRow → Row
key_of r = Int (pos r.day) ∷ Int (pos r.vid) ∷ Int (pos r.xway) ∷ []

-- amounts may follow entries: the last of these begins below the key of the first amount
abbrev pub MayFollow : List Row → List SpentRow → Type 0
MayFollow entries [] = Unit {0}
MayFollow entries (r ∷ rs) =
    (front : List Row) (last : Row) → entries ≡ front ++ last ∷ [] → prefix_cmp plain last (key_of r) ≡ Less

-- neither a record nor a seal has the number of a day, and its amounts may follow those that the index lists
pub record IsFreshDay (r : DayRecord) (rows : List SpentRow) (trees : Trees) : Type 0 where
  pub unrecorded : filter (has_rowid (pos r.day)) (trees 0) ≡ []
  pub unsealed : filter (has_rowid (pos r.day)) (trees 4) ≡ []
  pub after : MayFollow (trees 2) rows

-- no history is recorded, and the amounts of one may follow those that the index lists
pub record IsFreshPast (rows : List SpentRow) (trees : Trees) : Type 0 where
  pub unrecorded : filter (has_rowid (pos 1)) (trees 3) ≡ []
  pub after : MayFollow (trees 2) rows
