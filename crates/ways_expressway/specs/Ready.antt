-- Which events can be run on a carriage.
use Rattle.std.specs.Prelude.{List, ◌++◌, map}
use Rattle.road_time.specs.declared.road.Tuple.TheVariants.{Report as ReportTuple}
use Rattle.road_time.specs.Fits.{IsDay}
use Rattle.ways_expressway.specs.declared.lane_event.LaneEvent.{LaneEvent}
use Rattle.ways_expressway.specs.Events.{seen}
use Rattle.ways_expressway.specs.Runs.{MayRun}
use Rattle.ways_expressway.specs.Kept.{KeptWays}
use Rattle.ways_expressway.specs.Stands.{StandsFor}

-- events can be run after earlier ones: they may follow them, and all reports that they show are a day's
pub record CanRun (before es : List LaneEvent) : Type 0 where
  pub order : MayRun before es
  pub day : IsDay (map (λ r. ReportTuple r) (seen (before ++ es)))

-- a carriage stands for earlier events, and these can be run after them
pub record IsReady (c : KeptWays) (before es : List LaneEvent) : Type 0 where
  pub stands : StandsFor c before
  pub runs : CanRun before es
