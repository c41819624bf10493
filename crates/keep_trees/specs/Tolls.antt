-- The amounts that a walk along the index tells, whatever the rows and entries are.
use Rattle.std.specs.Prelude.{◌≡◌, ◌<◌, ◌≤◌, ◌&&◌, ℕ, ℤ, pos, Bool, true, false, not, List, [], ◌∷◌, ◌++◌, filter}
use Rattle.std.specs.Ordering.{is_lt, is_eq, is_gt}
use Rattle.std.specs.List.{AllByRecursion}
use Rattle.sqlite_pages.specs.PageMap.{PageMap}
use Rattle.sqlite_value.specs.declared.value.Value.TheVariants.{Int}
use Rattle.sqlite_value.specs.Order.{Row, column, value_cmp}
use Rattle.sqlite_value.specs.Keys.{plain}
use Rattle.sqlite_trees.specs.declared.store.Shape.TheVariants.{Index}
use Rattle.sqlite_trees.specs.Tree.{from_key}
use Rattle.sqlite_trees.specs.View.{Finds}
use Rattle.sqlite_btree.specs.declared.batch.Batch.{Batch}
use Rattle.sqlite_store.specs.Cursor.{rows_after}
use Rattle.sqlite_store.specs.Db.{IsDb, trees_in}
use Rattle.road_time.specs.declared.day.SpentRow.{SpentRow}
use Rattle.keep_trees.specs.Pages.{our_trees}
use Rattle.keep_trees.specs.Finds.{HasColumns}
use Rattle.keep_trees.specs.Walks.{HasAhead}

-- an amount is an entry's: the entry has its key, and the row that the entry names has its key and its toll
pub record IsAmountOf (table : List Row) (entry : Row) (r : SpentRow) : Type 0 where
  pub day : column entry 0 ≡ Int (pos r.day)
  pub vid : column entry 1 ≡ Int (pos r.vid)
  pub xway : column entry 2 ≡ Int (pos r.xway)
  pub number : ℤ
  pub named : column entry 3 ≡ Int number
  pub row : Row
  pub found : Finds table number row true
  pub has : HasColumns row r.day r.vid r.xway r.tolls

-- amounts are those of entries, one by one
abbrev pub AreAmountsOf : List Row → List Row → List SpentRow → Type 0
AreAmountsOf table [] [] = Unit {0}
AreAmountsOf table [] (r ∷ rows) = ⊥
AreAmountsOf table (e ∷ entries) [] = ⊥
AreAmountsOf table (e ∷ entries) (r ∷ rows) = IsAmountOf table e r × AreAmountsOf table entries rows

-- an amount is of these days
abbrev pub IsOfDays : ℕ → ℕ → SpentRow → Type 0
IsOfDays from to r = (from ≤ r.day) × (r.day ≤ to)

-- no entry is left, or the first of them is of a day that comes later
abbrev pub ComeLater : ℕ → List Row → Type 0
ComeLater to [] = Unit {0}
ComeLater to (e ∷ entries) = (day : ℕ) × (column e 0 ≡ Int (pos day)) × (to < day)

-- the amounts of some days are those of the entries from the first day on, up to one of a day after the last
pub record AreToldRows (table entries : List Row) (from to : ℕ) (rows : List SpentRow) : Type 0 where
  pub taken : List Row
  pub left : List Row
  pub split : from_key plain (Int (pos from) ∷ []) entries ≡ taken ++ left
  pub amounts : AreAmountsOf table taken rows
  pub within : AllByRecursion (IsOfDays from to) rows
  pub later : ComeLater to left

-- a walk from the first day on has told the amounts of the entries before the one that it stands at
pub record Telling (size : ℕ) (pages : PageMap) (from to : ℕ) (batch : Batch) (entry : Row) (rows : List SpentRow) :
    Type 0 where
  pub db : IsDb size our_trees pages
  pub taken : List Row
  pub split : from_key plain (Int (pos from) ∷ []) (trees_in size our_trees pages 2)
      ≡ taken ++ entry ∷ rows_after (Index plain) entry (trees_in size our_trees pages 2)
  pub amounts : AreAmountsOf (trees_in size our_trees pages 1) taken rows
  pub within : AllByRecursion (IsOfDays from to) rows
  pub ahead : HasAhead (db.layouts 3) size pages (trees_in size our_trees pages 2) batch entry

-- a walk stands at an entry, or has told all
abbrev pub IsTelling : ℕ → PageMap → ℕ → ℕ → Batch → Row → List SpentRow → Bool → Type 0
IsTelling size pages from to batch entry rows true = Telling size pages from to batch entry rows
IsTelling size pages from to batch entry rows false =
    AreToldRows (trees_in size our_trees pages 1) (trees_in size our_trees pages 2) from to rows

-- an entry is of a vehicle and of these days, whether or not its day is a whole number
abbrev pub is_entry_of : ℕ → ℕ → ℕ → Row → Bool
is_entry_of vid from to e =
    is_eq (value_cmp (column e 1) (Int (pos vid)))
    && (not (is_lt (value_cmp (column e 0) (Int (pos from)))) && not (is_gt (value_cmp (column e 0) (Int (pos to)))))

-- the amounts of a vehicle on some days are those of its entries of these days
abbrev pub AreToldOf : List Row → List Row → ℕ → ℕ → ℕ → List SpentRow → Type 0
AreToldOf table entries vid from to rows = AreAmountsOf table (filter (is_entry_of vid from to) entries) rows

-- a walk over the amounts of a vehicle has told those of the entries before the one that it stands at
pub record TellingOf (size : ℕ) (pages : PageMap) (vid from to : ℕ) (batch : Batch) (entry : Row)
    (rows : List SpentRow) : Type 0 where
  pub db : IsDb size our_trees pages
  pub front : List Row
  pub split : trees_in size our_trees pages 2
      ≡ front ++ entry ∷ rows_after (Index plain) entry (trees_in size our_trees pages 2)
  pub amounts : AreAmountsOf (trees_in size our_trees pages 1) (filter (is_entry_of vid from to) front) rows
  pub ahead : HasAhead (db.layouts 3) size pages (trees_in size our_trees pages 2) batch entry

-- such a walk stands at an entry, or has told all
abbrev pub IsTellingOf : ℕ → PageMap → ℕ → ℕ → ℕ → Batch → Row → List SpentRow → Bool → Type 0
IsTellingOf size pages vid from to batch entry rows true = TellingOf size pages vid from to batch entry rows
IsTellingOf size pages vid from to batch entry rows false =
    AreToldOf (trees_in size our_trees pages 1) (trees_in size our_trees pages 2) vid from to rows
