-- Keys that no entry of an index has.
use Rattle.std.specs.Prelude.{◌≡◌, List, [], filter}
use Rattle.std.specs.List.{AllByRecursion}
use Rattle.sqlite_value.specs.Order.{Row}
use Rattle.sqlite_value.specs.Keys.{plain}
use Rattle.sqlite_trees.specs.Tree.{IsIndex}
use Rattle.road_time.specs.declared.day.SpentRow.{SpentRow}
use Rattle.keep_office.specs.Office.{RowsRise}
use Rattle.keep_trees.specs.Finds.{opens_with}
use Rattle.keep_puts.specs.Steps.{key_of, MayFollow}

-- no entry begins with the key of an amount
abbrev pub IsFree : List Row → SpentRow → Type 0
IsFree entries r = filter (opens_with (key_of r)) entries ≡ []

-- amounts whose keys rise, and that may follow the entries of an index, have keys that none of these has
abbrev pub FreeKeys : Type 0
FreeKeys = (entries : List Row) (rows : List SpentRow) → IsIndex plain entries → RowsRise rows → MayFollow entries rows
    → AllByRecursion (IsFree entries) rows
