-- A walk over the amounts that are wanted, along the index.
use Rattle.std.specs.Prelude.{◌≡◌, ℕ, ◌==◌, ◌&&◌, nat_le, Bool, true, false, List, ◌∷◌, ◌++◌, map, take, filter}
use Rattle.sqlite_pages.specs.PageMap.{PageMap}
use Rattle.sqlite_value.specs.Order.{Row}
use Rattle.sqlite_value.specs.Keys.{plain}
use Rattle.sqlite_trees.specs.declared.store.Shape.TheVariants.{Index}
use Rattle.sqlite_btree.specs.Cut.{IsIn}
use Rattle.sqlite_btree.specs.declared.batch.Batch.{Batch}
use Rattle.sqlite_store.specs.Cursor.{rows_after}
use Rattle.sqlite_store.specs.Db.{IsDb, trees_in}
use Rattle.road_time.specs.declared.day.SpentRow.{SpentRow}
use Rattle.keep_office.specs.Office.{Office}
use Rattle.keep_trees.specs.Pages.{our_trees}
use Rattle.keep_trees.specs.Finds.{amount_key}
use Rattle.keep_trees.specs.Walks.{HasAhead}

-- the key of an amount
abbrev pub row_key : SpentRow → Row
row_key r = amount_key r.day r.vid r.xway

-- an amount is of these days
abbrev pub is_within : ℕ → ℕ → SpentRow → Bool
is_within from to r = nat_le from r.day && nat_le r.day to

-- an amount is of this vehicle and of these days
abbrev pub is_of_vehicle : ℕ → ℕ → ℕ → SpentRow → Bool
is_of_vehicle vid from to r = r.vid == vid && (nat_le from r.day && nat_le r.day to)

-- the entry that a walk stands at, and those after it, are of the amounts that are left; of those before them it has
-- the wanted ones
pub record Walking (size : ℕ) (pages : PageMap) (o : Office) (wanted : SpentRow → Bool) (batch : Batch) (entry : Row)
    (rows : List SpentRow) : Type 0 where
  pub db : IsDb size our_trees pages
  pub front : List SpentRow
  pub left : List SpentRow
  pub split : o.rows ≡ front ++ left
  pub got : rows ≡ filter wanted front
  pub at : IsIn entry (trees_in size our_trees pages 2)
  pub lists : map (take 3) (entry ∷ rows_after (Index plain) entry (trees_in size our_trees pages 2)) ≡ map row_key left
  pub ahead : HasAhead (db.layouts 3) size pages (trees_in size our_trees pages 2) batch entry

-- a walk stands at an entry, or has gathered all
abbrev pub IsWalkedTo : ℕ → PageMap → Office → (SpentRow → Bool) → Batch → Row → List SpentRow → Bool → Type 0
IsWalkedTo size pages o wanted batch entry rows true = Walking size pages o wanted batch entry rows
IsWalkedTo size pages o wanted batch entry rows false = rows ≡ filter wanted o.rows
