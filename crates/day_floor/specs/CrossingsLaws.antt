-- That what a tracker tells of a report is what the day's stays, stops and charges go by.
use Rattle.std.specs.Prelude.{◌≡◌, ◌↔◌, ◌++◌, ◌∷◌, [], true, false, List, Some}
use Rattle.road_time.specs.declared.road.Tuple.{Tuple}
use Rattle.road_time.specs.declared.road.Tuple.TheVariants.{Report as ReportTuple}
use Rattle.road_time.specs.declared.road.Report.{Report}
use Rattle.road_time.specs.declared.road.Place.{Place}
use Rattle.road_time.specs.Tuples.{reports, place_of, same_place}
use Rattle.road_time.specs.Sights.{sights_of, previous}
use Rattle.road_time.specs.Stays.{begins}
use Rattle.road_time.specs.Stops.{trail, is_stopped}
use Rattle.day_floor.specs.declared.tracked.Tracked.{Tracked}
use Rattle.day_floor.specs.Told.{charge_by, IsTracked}

-- what a report tells, after a day's tuples: the stay that it begins and the charge that it brings are those by which
-- the day's notices and charges go, it is stopped where the vehicle is, by all the day's reports with this one, and it
-- leaves the place where the vehicle was stopped, by the reports before it, if it is at another
pub record TellsOfDay (t : Tracked) (day : List Tuple) (r : Report) : Type 0 where
  pub begins : t.begins ≡ begins (previous (sights_of day r.vid)) r
  pub charge : t.charge ≡ charge_by (previous (sights_of day r.vid)) r
  pub stopped : t.stopped ≡ is_stopped (reports (day ++ ReportTuple r ∷ [])) r.vid (place_of r)
  pub left : (place : Place) →
      (t.left ≡ Some place) ↔ ((is_stopped (reports day) r.vid place ≡ true) × (same_place (place_of r) place ≡ false))

-- what is told after the reports of a day's tuples is told after the tuples
abbrev pub DayLaw : Type 0
DayLaw = (day : List Tuple) (r : Report) (t : Tracked) → IsTracked t (trail (reports day) r.vid) r → TellsOfDay t day r
