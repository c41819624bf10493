use Rattle.std.proofs.Common.{refl}
use Rattle.road_time.proofs.FitLaws.{day_of_fit}
use Rattle.road_time.proofs.laws.limits_law.Goals as goal

pub returns : goal.returns
returns c = (refl, day_of_fit)
