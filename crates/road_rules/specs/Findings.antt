-- What is found for a stretch in a minute, and the table of what was found already.
use Rattle.std.specs.Prelude.{◌≡◌, ℕ, ◌≤◌, ◌*◌, Bool, true, false, List, Option, Some, None}
use Rattle.std.specs.HashMap.{get, HashMap}
use Rattle.road_time.specs.declared.road.Report.{Report}
use Rattle.road_time.specs.declared.road.Stretch.{Stretch}
use Rattle.road_time.specs.declared.road.Frac.{Frac}
use Rattle.road_time.specs.Rates.{Tariffs, whole_of}
use Rattle.road_time.specs.Tolls.{StretchTold, lav_at, toll_at, near_at}
use Rattle.road_rules.specs.declared.spots.Spot.{Spot}
use Rattle.road_rules.specs.declared.found.SpotFound.{SpotFound}
use Rattle.road_rules.specs.Gathered.{same_spot}

-- the rules' finding for a stretch in a minute
abbrev pub finding_on : List Report → Tariffs → ℕ → Stretch → StretchTold
finding_on reports tariffs minute stretch = record {
  lav = whole_of (lav_at reports minute stretch);
  toll = toll_at reports tariffs minute stretch;
  alert = near_at reports minute stretch;
}

-- a finding of the code, as the definitions have it
abbrev pub shown_found : SpotFound → StretchTold
shown_found f = record { lav = f.lav; toll = f.toll; alert = f.alert }

-- what was found of spots is what the rules find there
abbrev pub KnowsSpots : {S : Type 0} → List Report → Tariffs → HashMap Spot SpotFound S → Type 0
KnowsSpots reports tariffs found = (s : Spot) (f : SpotFound) → get same_spot found s ≡ Some f →
    shown_found f ≡ finding_on reports tariffs s.minute s.stretch

-- an average of speeds: at most 100
abbrev pub IsMeanSpeed : Option Frac → Type 0
IsMeanSpeed average = (f : Frac) → average ≡ Some f → (1 ≤ f.den) × (f.num ≤ 100 * f.den)

-- what the code tells, as the definitions have it
abbrev pub shown_told : Option SpotFound → Option StretchTold
shown_told None = None
shown_told (Some f) = Some (shown_found f)

-- a finding, where there is one to tell
abbrev pub finding_if : Bool → StretchTold → Option StretchTold
finding_if true f = Some f
finding_if false f = None
