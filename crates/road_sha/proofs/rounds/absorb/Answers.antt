use Rattle.std.proofs.Common.{◌∙◌, ap, arith, refl, sym}
use Rattle.sha2.specs.Sha256.{compress, hash_after}
use Rattle.sha2.proofs.Absorbing256.{hash_after_next}
use Rattle.road_sha.specs.Words.{block_at}
use Rattle.road_sha.proofs.rounds.absorb.Goals as goal

pub lanes-init : goal.lanes-init
unfolding hash_after
lanes-init c = refl

pub lanes-preserved : goal.lanes-preserved
lanes-preserved c =
    let b = block_at c.args.blocks.now c.lanes.lane in
    c.compress.ensures b (c.fill.ensures c.lanes.lane (omega arith)) ∙ ap (λ hash. compress hash b) c.lanes.invariant
    ∙ sym (hash_after_next _ c.args.blocks.now c.lanes.lane)
