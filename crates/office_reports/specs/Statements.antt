-- The texts of the statements of a day and of a vehicle.
use Rattle.std.specs.Prelude.{ℕ, zero, suc, ◌-◌, ◌^◌, ◌==◌, false, List, [], ◌++◌, codes, Option, nat_lt, if◌then◌else◌}
use Rattle.std.specs.List.{filter, flat_map}
use Rattle.std.specs.Option.{option_map}
use Rattle.std.specs.Fmt.{decimal, padded_integral, format_spec}
use Rattle.hex.specs.Hex.{encode_lower}
use Rattle.road_time.specs.declared.day.SpentRow.{SpentRow}
use Rattle.keep_office.specs.declared.kept.DayRecord.{DayRecord}
use Rattle.keep_office.specs.Office.{Office, record_of, rows_between, vehicle_rows_between, sum_of_rows}

-- a number, right in so many places, blanks before it
abbrev pub right : ℕ → ℕ → List ℕ
right places n = padded_integral (format_spec 32 3 0 places (2 ^ 64 - 1)) false [] (decimal n)

-- the first lines of a day's statement: its number, and the digest and length of its bytes
unfoldable pub input_lines : ℕ → List ℕ → ℕ → List ℕ
input_lines day digest bytes =
    codes "day "
    ++ (decimal day ++ (codes "\ndigest " ++ (digest ++ (codes "\nbytes " ++ (decimal bytes ++ codes "\n")))))

-- the next lines: how many tuples it has, and how many notices
unfoldable pub count_lines : ℕ → ℕ → List ℕ
count_lines tuples notices =
    codes "tuples " ++ (decimal tuples ++ (codes "\nnotices " ++ (decimal notices ++ codes "\n")))

-- the next lines: the digests of its notices and of its tariffs, and its total
unfoldable pub charge_lines : List ℕ → List ℕ → ℕ → List ℕ
charge_lines notices_digest tariffs total =
    codes "notices-digest "
    ++ (notices_digest ++ (codes "\ntariffs " ++ (tariffs ++ (codes "\ntotal " ++ (decimal total ++ codes "\n")))))

-- the lines of a record, an item a line, the digests in lower-case hexadecimal digits
abbrev pub record_text : DayRecord → List ℕ
record_text r =
    input_lines r.day (encode_lower r.digest.bytes) r.bytes
    ++ (count_lines r.tuples r.notices ++ charge_lines (encode_lower r.notices_digest.bytes)
    (encode_lower r.tariffs.bytes) r.total)

-- what rows come to on an expressway
abbrev pub sum_on : List SpentRow → ℕ → ℕ
sum_on rows xway = sum_of_rows (filter (λ r. r.xway == xway) rows)

-- the line of an expressway
abbrev pub way_line : ℕ → ℕ → List ℕ
way_line xway sum = codes "xway " ++ (right 3 xway ++ (codes " " ++ (right 20 sum ++ codes "\n")))

-- the line of an expressway with tolls
abbrev pub way_text : ℕ → ℕ → List ℕ
way_text xway sum = if nat_lt 0 sum then way_line xway sum else []

-- the lines of the expressways below a number, in rising order
unfoldable pub ways_text : (ℕ → ℕ) → ℕ → List ℕ
ways_text sums zero = []
ways_text sums (suc n) = ways_text sums n ++ way_text n (sums n)

-- the statement of a day
abbrev pub day_text : DayRecord → List SpentRow → List ℕ
day_text kept rows = record_text kept ++ ways_text (sum_on rows) 256

-- what is stated of a day, nothing where it is not kept
abbrev pub day_report : ℕ → Office → Option (List ℕ)
day_report day o = option_map (λ r. day_text r (rows_between o day day)) (record_of o day)

-- the first line of a vehicle's statement
abbrev pub vehicle_line : ℕ → ℕ → ℕ → List ℕ
vehicle_line vid from to =
    codes "vehicle "
    ++ (decimal vid ++ (codes " days " ++ (decimal from ++ (codes " to " ++ (decimal to ++ codes "\n")))))

-- the line of an amount
abbrev pub amount_line : SpentRow → List ℕ
amount_line r = right 7 r.day ++ (codes " " ++ (right 3 r.xway ++ (codes " " ++ (right 20 r.tolls ++ codes "\n"))))

-- the last line of a vehicle's statement
abbrev pub total_line : ℕ → List ℕ
total_line sum = codes "total" ++ (right 27 sum ++ codes "\n")

-- the statement of a vehicle
abbrev pub vehicle_text : ℕ → ℕ → ℕ → List SpentRow → List ℕ
vehicle_text vid from to rows = vehicle_line vid from to ++ (flat_map amount_line rows ++ total_line (sum_of_rows rows))

-- what is stated of a vehicle
abbrev pub vehicle_report : ℕ → ℕ → ℕ → Office → List ℕ
vehicle_report vid from to o = vehicle_text vid from to (vehicle_rows_between o vid from to)
