use Rattle.road_sha.proofs.HeldLemmas.{leaves_room}
use Rattle.road_sha.proofs.hasher.Sha256.keep.Goals as goal

pub returns : goal.returns
returns c = λ m held. leaves_room c.args.self.now _ m c.args.bytes.now held c.requires c.put.ensures.counted c.put.ensures.same c.put.ensures.behind
