-- The export of a day as CSV: a line for each amount.

use Rattle.std.specs.Prelude.{ℕ, List, ◌++◌, codes, Option}
use Rattle.std.specs.List.{flat_map}
use Rattle.std.specs.Option.{option_map}
use Rattle.std.specs.Fmt.{decimal}
use Rattle.road_time.specs.declared.day.SpentRow.{SpentRow}
use Rattle.keep_office.specs.Office.{Office, record_of, rows_between}

-- the line of an amount: its vehicle, day, expressway and tolls
abbrev pub export_line : SpentRow → List ℕ
export_line r =
    decimal r.vid
    ++ (codes ","
    ++ (decimal r.day ++ (codes "," ++ (decimal r.xway ++ (codes "," ++ (decimal r.tolls ++ codes "\n"))))))

-- the export of amounts: a line that names the columns, and a line each
abbrev pub export_text : List SpentRow → List ℕ
export_text rows = codes "vid,day,xway,tolls\n" ++ flat_map export_line rows

-- what is exported of a day, nothing where it is not kept
abbrev pub export_report : ℕ → Office → Option (List ℕ)
export_report day o = option_map (λ r. export_text (rows_between o day day)) (record_of o day)
