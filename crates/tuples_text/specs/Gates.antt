-- What a gatekeeper keeps of the tuples that it let in, and how it judges the next one.
use Rattle.std.specs.Prelude.{ℕ, ◌≡◌, ◌+◌, ◌≤◌, nat_eq, nat_le, is_some, List, length, Option, Some, None, Result, Ok}
use Rattle.std.specs.Prelude.{Err, if◌then◌else◌}
use Rattle.std.specs.Map.{lookup}
use Rattle.std.specs.Option.{option_map}
use Rattle.road_time.specs.declared.road.Tuple.{Tuple}
use Rattle.road_time.specs.declared.day.Limits.{Limits}
use Rattle.road_time.specs.Clock.{minute_of}
use Rattle.road_time.specs.Notes.{has}
use Rattle.road_time.specs.Order.{greatest_time}
use Rattle.road_time.specs.Fits.{vehicles_seen, reports_in_minute}
use Rattle.road_time.specs.Form.{Fault, TooOften, Vehicles}
use Rattle.tuples_text.specs.declared.recent.Recent.{Recent}
use Rattle.tuples_text.specs.declared.gatekeeper.AdmitFault.{AdmitFault}
use Rattle.tuples_text.specs.declared.gatekeeper.AdmitFault.TheVariants.{Refused, NoMemory}
use Rattle.tuples_text.specs.Causes.{cause_of}
use Rattle.tuples_text.specs.Recents.{count_in, first_in, noted}

-- what a gatekeeper keeps: the limit of vehicles, the lateness, the greatest Time, and of each vehicle that reported
-- the reports of its last minutes
pub record GateState : Type 0 where
  pub vehicle_limit : ℕ
  pub lateness : ℕ
  pub greatest : ℕ
  pub seen : List (ℕ × Recent)

-- what is kept of a vehicle, if it reported
abbrev pub kept_of : List (ℕ × Recent) → ℕ → Option Recent
kept_of seen vid = lookup (nat_eq vid) seen

-- the reports of a minute that are kept of a vehicle, or of none
abbrev pub count_of : Option Recent → ℕ → ℕ
count_of None minute = 0
count_of (Some r) minute = count_in r minute

-- a gatekeeper stands for tuples that were accepted, in the order of their lines: their greatest Time, their vehicles,
-- and each one's reports in the minute of the greatest Time and in the two minutes before
pub record StandsFor (gate : GateState) (limits : Limits) (late : ℕ) (before : List Tuple) : Type 0 where
  pub vehicle_limit : gate.vehicle_limit ≡ limits.vehicles
  pub lateness : gate.lateness ≡ late
  pub few : late ≤ 120
  pub greatest : gate.greatest ≡ greatest_time before
  pub vehicles : (vid : ℕ) → is_some (kept_of gate.seen vid) ≡ has (vehicles_seen before) vid
  pub number : length gate.seen ≡ length (vehicles_seen before)
  pub newest : (vid : ℕ) (r : Recent) → kept_of gate.seen vid ≡ Some r → r.minute ≤ minute_of (greatest_time before)
  pub counts : (vid minute : ℕ) → minute_of (greatest_time before) ≤ minute + 2 →
      count_of (kept_of gate.seen vid) minute ≡ reports_in_minute before vid minute

-- an answer is that of the definition: Ok where no fault is found, else its cause; want of memory alone is free, and
-- hides no fault
abbrev pub Judges : Result (Unit {0}) AdmitFault → Option Fault → Type 0
Judges (Ok u) fault = fault ≡ None
Judges (Err (Refused cause)) fault = option_map cause_of fault ≡ Some cause
Judges (Err NoMemory) fault = fault ≡ None

-- why a report is refused by what is kept of its vehicle
abbrev pub kept_fault : Option Recent → ℕ → ℕ → ℕ → ℕ → Option Fault
kept_fault None count limit vid minute = if nat_le limit count then Some (Vehicles limit) else None
kept_fault (Some r) count limit vid minute = if nat_le 4 (count_in r minute) then Some (TooOften vid minute) else None

-- what is kept of a vehicle after one report more
abbrev pub noted_of : Option Recent → ℕ → Recent
noted_of None minute = first_in minute
noted_of (Some r) minute = noted r minute
