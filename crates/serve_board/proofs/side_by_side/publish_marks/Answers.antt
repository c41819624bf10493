use Rattle.std.proofs.Common.{◌+◌, arith}
use Rattle.serve_board.proofs.MarkLaws.{next_fits}
use Rattle.serve_board.proofs.side_by_side.publish_marks.Goals as goal

pub publish-requires : goal.publish-requires
publish-requires g c =
    next_fits c.loop-mark.writer.posted c.loop-mark.mark (c.from-toll.result + 1)
    (c.loop-mark.invariant.1 c.if-all.true) (omega (arith, c.from-toll.ensures))
    (omega (arith, c.loop-mark-test.true, c.ranges.last.fits))
