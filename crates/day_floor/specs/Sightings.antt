-- What a tracker tells of a report before it comes in.
use Rattle.std.specs.Prelude.{◌≡◌, List, ◌∷◌, Some, None, IfSome, IfNone, nat_eq, slice_get}
use Rattle.std.specs.Map.{lookup}
use Rattle.road_time.specs.declared.road.Report.{Report}
use Rattle.road_time.specs.declared.road.LastSeen.{LastSeen}
use Rattle.road_time.specs.Stops.{trail, last_seen}
use Rattle.day_floor.specs.declared.sighting.Sighting.{Sighting}
use Rattle.day_floor.specs.Runs.{KeptSeen}
use Rattle.day_floor.specs.Stands.{StandsFor}

-- where the vehicle of a report is kept, if it was seen before, and what is to be kept of it with the report
pub record IsSighting (k : KeptSeen) (r : Report) (s : Sighting) : Type 0 where
  pub at : IfSome s.at (λ at. (last : LastSeen) × (slice_get k at ≡ Some (r.vid, last)))
  pub none : IfNone s.at (lookup (nat_eq r.vid) k ≡ None)
  pub now : (reports : List Report) → StandsFor k reports → last_seen (r ∷ trail reports r.vid) ≡ Some s.now
