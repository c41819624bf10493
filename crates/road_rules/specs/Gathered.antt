-- A day's tuples by stretch and minute, and its halts by stretch.
use Rattle.std.specs.Prelude.{◌≡◌, ◌==◌, ◌&&◌, Bool, false, List, [], Option, Some, None}
use Rattle.std.specs.Global.{Vec}
use Rattle.std.specs.HashMap.{get}
use Rattle.std.specs.List.{filter}
use Rattle.road_time.specs.declared.road.Report.{Report}
use Rattle.road_time.specs.declared.road.Tuple.{Tuple}
use Rattle.road_time.specs.declared.road.Tuple.TheVariants.{Report as ReportTuple, Balance, Spent, Travel}
use Rattle.road_time.specs.Clock.{minute_of}
use Rattle.road_time.specs.Tuples.{reports, stretch_of, same_stretch}
use Rattle.road_rules.specs.declared.spots.Spot.{Spot}
use Rattle.road_rules.specs.declared.spots.Gathered.{Gathered}
use Rattle.road_time.specs.declared.road.Stretch.{Stretch}
use Rattle.road_rules.specs.Halts.{halts_of, is_in}

-- two spots are the same
abbrev pub same_spot : Spot → Spot → Bool
same_spot a b = a.minute == b.minute && same_stretch a.stretch b.stretch

-- the stretch and the minute of a report
abbrev pub spot_of : Report → Spot
spot_of r = record { minute = minute_of r.time; stretch = stretch_of r }

-- the tuple is a report of the spot
abbrev pub is_of : Spot → Tuple → Bool
is_of s (ReportTuple r) = same_spot (spot_of r) s
is_of s (Balance time vid qid) = false
is_of s (Spent time vid xway qid day) = false
is_of s (Travel time) = false

-- what is kept of a key, nothing where the key is not kept
abbrev pub kept_items : {X : Type 0} → Option (Vec X) → List X
kept_items None = []
kept_items (Some there) = there.items

-- what is put together of a day is of its tuples
pub record IsGathered (gathered : Gathered) : Type 0 where
  pub by_spot : (s : Spot) → kept_items (get same_spot gathered.by_spot s) ≡ filter (is_of s) gathered.tuples.now
  pub halts : (k : Stretch) →
      kept_items (get same_stretch gathered.halts k) ≡ filter (is_in k) (halts_of (reports gathered.tuples.now))
