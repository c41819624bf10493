use Rattle.std.proofs.Common.{◌++◌}
use Rattle.road_time.specs.Day.{given}
use Rattle.day_floor.proofs.GivenLaws.{given_later}
use Rattle.day_floor.proofs.StayLaws.{stands_by}
use Rattle.day_floor.proofs.settling_laws.later_law.Goals as goal

pub returns : goal.returns
returns c = λ s found more number history before later h. stands_by s (given found) (given (found ++ more)) number
    history before (given_later found more before later) h
