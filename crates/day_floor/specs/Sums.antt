-- Charges added up by vehicle and expressway: the sums of a vehicle and of all, and the rows of a day.
use Rattle.std.specs.Prelude.{◌≡◌, ℕ, ◌+◌, ◌<◌, ◌==◌, ◌&&◌, nat_lt, Bool, List, [], ◌∷◌, if◌then◌else◌}
use Rattle.std.specs.Option.{unwrap_or}
use Rattle.std.specs.Map.{lookup}
use Rattle.std.specs.List.{filter, fold, sum_by, AllByRecursion}
use Rattle.std.specs.declared.cmp.Ordering.{Ordering}
use Rattle.std.specs.Ordering.{nat_cmp, ordering_then}
use Rattle.std.specs.FinMap.{FinMap, empty, get, insert, entries, from_entries}
use Rattle.road_time.specs.declared.day.SpentRow.{SpentRow}
use Rattle.road_time.specs.Day.{ChargedToll}
use Rattle.road_time.specs.Rows.{AreRowsRising, tolls_in}

-- the order of a vehicle and an expressway
abbrev pub owner_cmp : ℕ × ℕ → ℕ × ℕ → Ordering
owner_cmp a b = ordering_then (nat_cmp a.0 b.0) (nat_cmp a.1 b.1)

-- what each vehicle was charged on each expressway
abbrev pub SpentMap : Type 0
SpentMap = FinMap owner_cmp ℕ

-- the sums that entries tell
abbrev pub sums_of : List ((ℕ × ℕ) × ℕ) → SpentMap
sums_of es = from_entries es

-- a vehicle's charges on an expressway, added up
abbrev pub amount_in : SpentMap → ℕ → ℕ → ℕ
amount_in spent vid xway = unwrap_or (get spent (vid, xway)) 0

-- a vehicle's charges, added up
abbrev pub account_in : SpentMap → ℕ → ℕ
account_in spent vid = sum_by (λ e. e.1) (filter (λ e. e.0.0 == vid) (entries spent))

-- all charges, added up
abbrev pub total_in : SpentMap → ℕ
total_in spent = sum_by (λ e. e.1) (entries spent)

-- the sums with one charge more
abbrev pub with_charge : SpentMap → ChargedToll → SpentMap
with_charge spent c = insert spent (c.vid, c.xway) (amount_in spent c.vid c.xway + c.toll)

-- the sums of some charges
abbrev pub spent_by : List ChargedToll → SpentMap
spent_by cs = fold with_charge empty cs

-- the rows of a day: in the order of vehicles and expressways, none of them zero, with what was charged
pub record AreRowsOf (spent : SpentMap) (day : ℕ) (rows : List SpentRow) : Type 0 where
  pub in_order : AreRowsRising rows
  pub of_day : AllByRecursion (λ r. r.day ≡ day) rows
  pub none_zero : AllByRecursion (λ r. 0 < r.tolls) rows
  pub exact : (vid xway : ℕ) → tolls_in rows vid xway ≡ amount_in spent vid xway

-- whether two are the same vehicle and expressway
abbrev pub same_owner : ℕ × ℕ → ℕ × ℕ → Bool
same_owner a b = a.0 == b.0 && a.1 == b.1

-- the sum in a list of entries, 0 for none
abbrev pub sum_at : List ((ℕ × ℕ) × ℕ) → ℕ × ℕ → ℕ
sum_at sums owner = unwrap_or (lookup (same_owner owner) sums) 0

-- whose row it is
abbrev pub owner_of : SpentRow → ℕ × ℕ
owner_of r = (r.vid, r.xway)

-- the rows of a day from entries, zero sums left out
abbrev pub listed : ℕ → List ((ℕ × ℕ) × ℕ) → List SpentRow
listed day [] = []
listed day (e ∷ es) = if nat_lt 0 e.1 then record { day = day; vid = e.0.0; xway = e.0.1; tolls = e.1 }
    ∷ listed day es else listed day es
