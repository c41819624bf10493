use Rattle.std.proofs.Common.{◌≡◌, map, take}
use Rattle.keep_office.specs.Office.{RowsRise}
use Rattle.day_past.specs.Rows.{amount_of}
use Rattle.day_past.proofs.amounts.keyed.mapped.Given as goal

-- the rows so far are in the map
abbrev pub invariant-rows : goal.invariant-rows
invariant-rows l = RowsRise l.rows → map amount_of l.by_key.entries ≡ take l.row-index l.rows
