-- Which reports a tracker has seen, by what it keeps.
use Rattle.std.specs.Prelude.{◌≡◌, ℕ, nat_eq, List}
use Rattle.std.specs.Map.{lookup}
use Rattle.road_time.specs.declared.road.Report.{Report}
use Rattle.road_time.specs.Stops.{trail, last_seen}
use Rattle.day_floor.specs.Runs.{KeptSeen}

-- what is kept of each vehicle is that of its reports
pub record StandsFor (k : KeptSeen) (reports : List Report) : Type 0 where
  pub seen : (vid : ℕ) → lookup (nat_eq vid) k ≡ last_seen (trail reports vid)
