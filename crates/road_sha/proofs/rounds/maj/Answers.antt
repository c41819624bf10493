use Rattle.road_sha.proofs.Majority.{majority}
use Rattle.road_sha.proofs.rounds.maj.Goals as goal

pub returns : goal.returns
returns c = majority c.args.x c.args.y c.args.z
