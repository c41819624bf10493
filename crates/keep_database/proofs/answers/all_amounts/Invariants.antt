use Rattle.std.proofs.Common.{◌≡◌, List, map, take}
use Rattle.std.specs.List.{AllByRecursion}
use Rattle.road_time.specs.declared.day.SpentRow.{SpentRow}
use Rattle.keep_tables.specs.Codec.{spent_row}
use Rattle.keep_tables.specs.Stands.{FitsSpent}
use Rattle.keep_database.specs.Exact.{AreAmounts}
use Rattle.keep_database.proofs.answers.all_amounts.Given as goal

-- the amounts so far are the first ones, and those of the rows so far
abbrev pub invariant-found : goal.invariant-found
invariant-found l =
    ((rows : List SpentRow) → AllByRecursion FitsSpent rows → l.found ≡ map spent_row rows →
    l.rows.items ≡ take l.row-index rows)
    × AreAmounts (take l.row-index l.found) l.rows.items
