-- What a report tells of its vehicle: a stay that it begins, a stop, a place that it leaves, and a charge.
use Rattle.std.specs.Prelude.{◌≡◌, List, [], ◌∷◌, Option, Some, None, if◌then◌else◌}
use Rattle.road_time.specs.declared.road.Report.{Report}
use Rattle.road_time.specs.Tuples.{place_of}
use Rattle.road_time.specs.Stops.{stands, left_by}
use Rattle.road_time.specs.Stays.{begins, is_charged}
use Rattle.road_time.specs.Day.{xway_of}
use Rattle.day_floor.specs.declared.tracked.Tracked.{Tracked}
use Rattle.day_floor.specs.declared.tracked.Charge.{Charge}
use Rattle.day_floor.specs.declared.tracked.Charge.TheVariants.{No, Last}

-- the newest of a vehicle's reports
abbrev pub newest : List Report → Option Report
newest [] = None
newest (r ∷ older) = Some r

-- the charge that a report brings, after its vehicle's previous report: the expressway that was left, if a charged
-- stay was
abbrev pub charge_by : Option Report → Report → Charge
charge_by prev r = if is_charged prev r then Last (xway_of prev) else No

-- what a report tells, after its vehicle's earlier reports, the newest first
pub record IsTracked (t : Tracked) (own : List Report) (r : Report) : Type 0 where
  pub begins : t.begins ≡ begins (newest own) r
  pub stopped : t.stopped ≡ stands (r ∷ own) (place_of r)
  pub left : t.left ≡ left_by own r
  pub charge : t.charge ≡ charge_by (newest own) r
