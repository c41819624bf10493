-- What vehicles were charged on expressways over some days.
use Rattle.std.specs.Prelude.{ℕ, ◌+◌, List, [], ◌++◌, codes}
use Rattle.std.specs.List.{flat_map, fold}
use Rattle.std.specs.Option.{unwrap_or}
use Rattle.std.specs.Map.{lookup}
use Rattle.std.specs.BTreeMap.{is_at, insert_entry}
use Rattle.std.specs.declared.cmp.Ordering.{Ordering}
use Rattle.std.specs.Ordering.{nat_cmp, ordering_then}
use Rattle.std.specs.Fmt.{decimal}
use Rattle.road_time.specs.declared.day.SpentRow.{SpentRow}
use Rattle.keep_office.specs.Office.{Office, rows_between}

-- sums, each with its vehicle and its expressway
abbrev pub Sums : Type 0
Sums = List ((ℕ × ℕ) × ℕ)

-- the order of sums: by vehicle, then expressway
abbrev pub payer_cmp : ℕ × ℕ → ℕ × ℕ → Ordering
payer_cmp a b = ordering_then (nat_cmp a.0 b.0) (nat_cmp a.1 b.1)

-- the sum of a vehicle on an expressway, 0 for none
abbrev pub sum_for : Sums → ℕ × ℕ → ℕ
sum_for sums payer = unwrap_or (lookup (is_at (payer_cmp payer)) sums) 0

-- sums with an amount more: it is added to its vehicle's on its expressway, which has its place in the order
abbrev pub with_amount : Sums → SpentRow → Sums
with_amount sums r = insert_entry payer_cmp sums (r.vid, r.xway) (sum_for sums (r.vid, r.xway) + r.tolls)

-- what amounts come to, by vehicle and expressway
abbrev pub sums_of : List SpentRow → Sums
sums_of rows = fold with_amount [] rows

-- the line of a sum: its vehicle, its expressway and the tolls
abbrev pub charge_line : (ℕ × ℕ) × ℕ → List ℕ
charge_line e = decimal e.0.0 ++ (codes "," ++ (decimal e.0.1 ++ (codes "," ++ (decimal e.1 ++ codes "\n"))))

-- a line that names the columns, and a line for each sum
abbrev pub charges_text : Sums → List ℕ
charges_text sums = codes "vid,xway,tolls\n" ++ flat_map charge_line sums

-- what all vehicles were charged on the days from one to another, both included
abbrev pub charges_report : ℕ → ℕ → Office → List ℕ
charges_report from to o = charges_text (sums_of (rows_between o from to))
