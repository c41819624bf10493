-- Which events were run on a carriage, by what it keeps.
use Rattle.std.specs.Prelude.{◌≡◌, ℕ, List}
use Rattle.std.specs.List.{fold}
use Rattle.road_time.specs.Clock.{minute_of}
use Rattle.road_time.specs.Tolls.{notes_of}
use Rattle.ways_expressway.specs.SpeedsStand.{StandsFor as AveragesStandFor}
use Rattle.ways_expressway.specs.AccidentsStand.{StandsFor as StopsStandFor}
use Rattle.ways_expressway.specs.declared.lane_event.LaneEvent.{LaneEvent}
use Rattle.ways_expressway.specs.Events.{seen, entries, time_told}
use Rattle.ways_expressway.specs.Kept.{KeptWays}

-- the second of the last event, 0 where there is none
abbrev pub last_second : List LaneEvent → ℕ
last_second es = fold (λ before e. time_told e) 0 es

-- what is kept is that of the events, brought up to a second: the averages are of the reports that were seen, and who
-- stands is who stands after the stops and leaves
pub record IsUpTo (c : KeptWays) (time : ℕ) (es : List LaneEvent) : Type 0 where
  pub averages : AveragesStandFor c.speeds (notes_of (seen es))
  pub standing : StopsStandFor c.stops (entries es)
  pub minute : c.speeds.minute ≡ minute_of time
  pub second : c.stops.second ≡ time

-- a carriage stands for the events that were run on it: all is brought up to the second of the last
abbrev pub StandsFor : KeptWays → List LaneEvent → Type 0
StandsFor c es = IsUpTo c (last_second es) es
