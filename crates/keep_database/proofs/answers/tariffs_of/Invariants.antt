use Rattle.std.proofs.Common.{◌≡◌, ◌<◌, ◌^◌, map, drop, take}
use Rattle.std.specs.List.{AllByRecursion, fold}
use Rattle.road_time.specs.Rates.{Tariffs}
use Rattle.road_time.specs.Tariffs.{IsTariffs}
use Rattle.keep_tables.specs.Shown.{tariff_columns}
use Rattle.keep_database.specs.Exact.{AreTariffsIn, with_entry}
use Rattle.keep_database.proofs.answers.tariffs_of.Given as goal

-- what was set, with what is left, makes the whole; the rows so far make what was set
abbrev pub invariant-found : goal.invariant-found
invariant-found l =
    ((ts : Tariffs) → IsTariffs ts → AllByRecursion (λ e. e.0 < 2 ^ 8) ts → l.found ≡ map tariff_columns ts →
    fold with_entry l.tariffs (drop l.row-index ts) ≡ ts)
    × AreTariffsIn (take l.row-index l.found) l.tariffs
