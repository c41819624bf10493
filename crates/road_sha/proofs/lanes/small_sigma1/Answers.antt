use Rattle.road_sha.proofs.LaneLemmas.{sigma1_lanes}
use Rattle.road_sha.proofs.lanes.small_sigma1.Goals as goal

pub returns : goal.returns
returns c = sigma1_lanes c.args.x c.fits-x.0
