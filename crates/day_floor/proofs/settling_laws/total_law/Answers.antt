use Rattle.std.proofs.Common.{arith}
use Rattle.road_time.proofs.BoundLaws.{total_few}
use Rattle.day_floor.proofs.settling_laws.total_law.Goals as goal

pub returns : goal.returns
returns c = λ finding before few short. let most = total_few finding few before in omega arith
