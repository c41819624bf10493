use Rattle.std.proofs.Common.{◌*◌, arith}
use Rattle.road_sha.proofs.TableLemmas.{put_mid-chunk}
use Rattle.road_sha.proofs.lanes.put_row.Goals as goal

pub returns : goal.returns
returns c = put_mid-chunk c.args.words.now c.args.row (4 * c.args.t) _ (omega arith) c.fits-row.0 (omega arith)
