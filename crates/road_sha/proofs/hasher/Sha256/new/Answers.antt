use Rattle.std.proofs.Common.{rules}
use Rattle.sha2.specs.Sha256.{hash_after}
use Rattle.road_sha.specs.Hashers.{Holds}
use Rattle.road_sha.proofs.hasher.Sha256.new.Goals as goal

pub returns : goal.returns
unfolding Holds hash_after
returns c = search rules
