-- What is kept of speeds: sums in the current minute, and the flows of the minutes before it.
use Rattle.std.specs.Prelude.{ℕ, List}
use Rattle.road_time.specs.declared.road.Stretch.{Stretch}
use Rattle.ways_expressway.specs.declared.this_minute.Car.{Car}
use Rattle.ways_expressway.specs.declared.this_minute.Sum.{Sum}
use Rattle.ways_expressway.specs.declared.window.Ring.{Ring}

-- what is kept: the current minute, what was noted in it of each vehicle, and the flows of the last six minutes of
-- each stretch
pub record KeptSpeeds : Type 0 where
  pub minute : ℕ
  pub seen : List (Car × Sum)
  pub rings : List (Stretch × Ring)
