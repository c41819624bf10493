use Rattle.std.proofs.Common.{◌∙◌, ◌*◌, arith}
use Rattle.sha2.specs.Sha256.{word_at}
use Rattle.road_sha.specs.Words.{block_at}
use Rattle.road_sha.proofs.LaneLemmas.{lanes_are, word_at_block}
use Rattle.road_sha.proofs.lanes.first_row.Goals as goal

pub returns : goal.returns
returns c =
    let b = c.args.blocks.now in
    let at = 4 * c.args.t in
    lanes_are (λ j. word_at (block_at b j) at) (c.word.ensures ∙ word_at_block b 0 at _ (omega arith) (omega arith))
    (c.word-2.ensures ∙ word_at_block b 1 at _ (omega arith) (omega arith))
    (c.word-3.ensures ∙ word_at_block b 2 at _ (omega arith) (omega arith))
    (c.word-4.ensures ∙ word_at_block b 3 at _ (omega arith) (omega arith))
