use Rattle.std.proofs.Common.{◌∙◌, ap}
use Rattle.sha2.specs.Sha256.{hash_after}
use Rattle.road_sha.proofs.HeldLemmas.{fills}
use Rattle.road_sha.proofs.hasher.Sha256.fill.Goals as goal

pub returns : goal.returns
returns c = λ m held.
    fills c.args.self.now _ m c.args.bytes.now c.put.new.self.buffer held c.requires c.put.ensures.wide c.put.ensures.counted c.put.ensures.behind
    (c.absorb.ensures ∙ ap (λ hash. hash_after hash c.put.new.self.buffer 4) c.put.ensures.same)
