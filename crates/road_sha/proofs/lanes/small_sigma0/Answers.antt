use Rattle.road_sha.proofs.LaneLemmas.{sigma0_lanes}
use Rattle.road_sha.proofs.lanes.small_sigma0.Goals as goal

pub returns : goal.returns
returns c = sigma0_lanes c.args.x c.fits-x.0
