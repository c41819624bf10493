-- The cars and the average speed of the minutes before, by what is kept.
use Rattle.std.specs.Prelude.{ℕ, ◌-◌, [], ◌∷◌, map, Option}
use Rattle.road_time.specs.declared.road.Stretch.{Stretch}
use Rattle.road_time.specs.declared.road.Frac.{Frac}
use Rattle.road_time.specs.Lav.{lav_of}
use Rattle.ways_expressway.specs.KeptSpeeds.{KeptSpeeds}
use Rattle.ways_expressway.specs.Parts.{shown_flow, flow_in}

-- the cars of the minute before, by what is kept
abbrev pub cars_in : KeptSpeeds → Stretch → ℕ
cars_in s k = (flow_in s.rings k (s.minute - 1)).cars

-- the average over the five minutes before, by what is kept
abbrev pub lav_in : KeptSpeeds → Stretch → Option Frac
lav_in s k =
    lav_of (map (λ m. shown_flow (flow_in s.rings k m))
    ((s.minute - 5) ∷ (s.minute - 4) ∷ (s.minute - 3) ∷ (s.minute - 2) ∷ (s.minute - 1) ∷ []))
