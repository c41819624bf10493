-- A vehicle's row of an expressway, and whether it is listed.
use Rattle.std.specs.Prelude.{ℕ, nat_lt, Bool, List}
use Rattle.road_time.specs.declared.day.SpentRow.{SpentRow}
use Rattle.road_time.specs.Day.{ChargedToll, sum_of}
use Rattle.road_time.specs.Rows.{charges_on}

-- a vehicle's row of an expressway, by its charges
abbrev pub row_on : ℕ → ℕ → List ChargedToll → ℕ → SpentRow
row_on number vid own xway = record { day = number; vid = vid; xway = xway; tolls = sum_of (charges_on xway own) }

-- whether a row is not zero
abbrev pub has_tolls : SpentRow → Bool
has_tolls r = nat_lt 0 r.tolls
