-- Whether an office is sound and fits its fields, by a test.
use Rattle.std.specs.Prelude.{◌+◌, ◌^◌, ◌==◌, ◌&&◌, nat_le, nat_lt, not, Bool, true, List, [], ◌∷◌, map, length, Option}
use Rattle.std.specs.Prelude.{Some, None}
use Rattle.std.specs.List.{list_all}
use Rattle.std.specs.declared.cmp.Ordering.{Ordering}
use Rattle.std.specs.Ordering.{nat_cmp, is_lt}
use Rattle.std.specs.Map.{keys_of, values_of}
use Rattle.road_time.specs.declared.day.SpentRow.{SpentRow}
use Rattle.road_time.specs.declared.tariff.Tariff.{Tariff}
use Rattle.road_time.specs.Rates.{Tariffs, benchmark, same_tariff}
use Rattle.road_digest.specs.declared.digest.Digest.{Digest}
use Rattle.keep_office.specs.declared.kept.DayRecord.{DayRecord}
use Rattle.keep_office.specs.declared.kept.PastRecord.{PastRecord}
use Rattle.keep_office.specs.Office.{Office, row_cmp, rows_on, rows_off, sum_of_rows}

-- each item is below all after it
abbrev pub rises : {K : Type 0} → (K → K → Ordering) → List K → Bool
rises cmp [] = true
rises cmp (x ∷ xs) = list_all (λ y. is_lt (cmp x y)) xs && rises cmp xs

-- a history fits what is kept
abbrev pub fits_kept : PastRecord → List DayRecord → List SpentRow → Bool
fits_kept p days rows =
    nat_le 70 p.base && (list_all (λ r. nat_le p.base (r.day + 69)) (rows_off days rows)
    && (list_all (λ r. nat_lt r.day p.base) (rows_off days rows)
    && ((length (rows_off days rows) == p.rows) && list_all (λ r. nat_le p.base r.day) days)))

-- what is left over for a history, or for none
abbrev pub past_fits : Option PastRecord → List DayRecord → List SpentRow → Bool
past_fits None days rows = length (rows_off days rows) == 0
past_fits (Some p) days rows = fits_kept p days rows

-- a tariff may be kept
abbrev pub is_tariff : Tariff → Bool
is_tariff t = nat_le t.crowd 500000 && (nat_le t.speed 100 && nat_le t.factor 20)

-- tariffs may be kept
abbrev pub are_tariffs : Tariffs → Bool
are_tariffs tariffs =
    rises nat_cmp (keys_of tariffs) && (list_all is_tariff (values_of tariffs)
    && list_all (λ t. not (same_tariff t benchmark)) (values_of tariffs))

-- all that an office keeps fits together
abbrev pub is_sound : Office → Bool
is_sound o =
    rises nat_cmp (map (λ r. r.day) o.days) && (list_all (λ r. nat_le 1 r.day) o.days && (rises row_cmp o.rows
    && (list_all (λ r. nat_lt 0 r.tolls) o.rows
    && (list_all (λ r. sum_of_rows (rows_on r.day o.rows) == r.total) o.days && (past_fits o.past o.days o.rows
    && are_tariffs o.tariffs)))))

-- a digest has 32 bytes
abbrev pub is_whole : Digest → Bool
is_whole d = (length d.bytes == 32) && list_all (λ b. nat_lt b 256) d.bytes

-- a day fits its fields
abbrev pub fits_day : DayRecord → Bool
fits_day r =
    nat_lt r.day (2 ^ 32) && (nat_lt r.bytes (2 ^ 63) && (nat_lt r.tuples (2 ^ 63) && (nat_lt r.notices (2 ^ 63)
    && (nat_lt r.total (2 ^ 63) && (is_whole r.digest && (is_whole r.notices_digest && is_whole r.tariffs))))))

-- an amount fits its fields
abbrev pub fits_spent : SpentRow → Bool
fits_spent r = nat_lt r.day (2 ^ 32) && (nat_lt r.vid (2 ^ 32) && (nat_lt r.xway (2 ^ 8) && nat_lt r.tolls (2 ^ 63)))

-- a history fits its fields, if there is one
abbrev pub fits_past : Option PastRecord → Bool
fits_past None = true
fits_past (Some p) =
    nat_lt p.base (2 ^ 32) && (nat_lt p.bytes (2 ^ 63) && (nat_lt p.rows (2 ^ 63) && is_whole p.digest))

-- all that an office keeps fits its fields
abbrev pub fits_fields : Office → Bool
fits_fields o =
    list_all fits_day o.days && (list_all fits_spent o.rows && (fits_past o.past
    && list_all (λ e. nat_lt e.0 (2 ^ 8)) o.tariffs))
