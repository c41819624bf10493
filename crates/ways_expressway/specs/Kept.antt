-- What a carriage keeps of its worker's ways.
use Rattle.road_time.specs.Rates.{Tariffs}
use Rattle.ways_expressway.specs.KeptSpeeds.{KeptSpeeds as Averages}
use Rattle.ways_expressway.specs.KeptAccidents.{KeptStops as Standing}

-- what is kept of a worker's ways: the sliding averages, who stands where, and the tariffs
pub record KeptWays : Type 0 where
  pub speeds : Averages
  pub stops : Standing
  pub tariffs : Tariffs
