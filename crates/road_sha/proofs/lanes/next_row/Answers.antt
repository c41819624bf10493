use Rattle.std.proofs.Common.{refl}
use Rattle.road_sha.proofs.LaneLemmas.{lane_of}
use Rattle.road_sha.proofs.lanes.next_row.Goals as goal

pub returns : goal.returns
returns c j h =
    let w = c.args.words.now in
    rw (
      c.add-2.ensures j h,
      c.add.ensures j h,
      c.add-near.ensures j h,
      c.small_sigma1.ensures j h,
      c.small_sigma0.ensures j h,
      lane_of w _ _ j c.row.ensures h,
      lane_of w _ _ j c.row-2.ensures h,
      lane_of w _ _ j c.row-3.ensures h,
      lane_of w _ _ j c.row-4.ensures h,
    ) refl
