-- What a carriage told last of its stretches, and when it may tell that again.
use Rattle.std.specs.Prelude.{◌≡◌, ◌≤◌, List, All, Option, Some, None, is_some}
use Rattle.road_time.specs.Clock.{minute_of}
use Rattle.road_time.specs.declared.road.Stretch.{Stretch}
use Rattle.road_time.specs.Rates.{tariff_of, toll_of, whole_of}
use Rattle.road_time.specs.Tolls.{StretchTold}
use Rattle.ways_expressway.specs.Past.{cars_in, lav_in}
use Rattle.ways_expressway.specs.Near.{near_in}
use Rattle.ways_expressway.specs.declared.known.Known.{Known}
use Rattle.ways_expressway.specs.Kept.{KeptWays}

-- what is told of a stretch in the current minute, by what is kept of it
abbrev pub told_now_of : KeptWays → Stretch → StretchTold
told_now_of c k = record {
  lav = whole_of (lav_in c.speeds k);
  toll = toll_of (tariff_of c.tariffs k.xway) (cars_in c.speeds k) (lav_in c.speeds k) (is_some (near_in c.stops k));
  alert = near_in c.stops k;
}

-- what is known of a stretch, as the definitions have it
abbrev pub known_as : Known → StretchTold
known_as q = record { lav = q.lav; toll = q.toll; alert = q.alert }

-- what is known is of no later minute than the current one, and true in its minute
abbrev pub IsTrueIn : KeptWays → Option Known → Type 0
IsTrueIn c None = Unit {0}
IsTrueIn c (Some q) = (q.minute ≤ c.speeds.minute) × (q.minute ≡ c.speeds.minute → known_as q ≡ told_now_of c q.stretch)

-- the averages are of the minute of the second at which the stops are, and all that is known is true
pub record IsInStep (c : KeptWays) (known : List (Option Known)) : Type 0 where
  pub minute : c.speeds.minute ≡ minute_of c.stops.second
  pub known_ones : All (IsTrueIn c) known
