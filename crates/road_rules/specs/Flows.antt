-- The cars of a stretch in a minute and their speeds, as the code has them.
use Rattle.road_rules.specs.declared.flows.Flow.{Flow as CodeFlow}
use Rattle.road_time.specs.Lav.{CarFlow}

-- a flow of the code, as the definitions have it
abbrev pub shown_flow : CodeFlow → CarFlow
shown_flow f = record { cars = f.cars; speeds12 = f.speeds12 }
