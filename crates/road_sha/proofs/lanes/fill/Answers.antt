use Rattle.std.proofs.Common.{◌≡◌, ◌*◌, ◌+◌, ◌∙◌, slice_index, arith, refl}
use Rattle.sha2.specs.Sha256.{add32, round_constants}
use Rattle.road_sha.specs.Words.{block_at}
use Rattle.road_sha.proofs.LaneLemmas.{lane_of, splat_lane}
use Rattle.road_sha.proofs.TableLemmas.{IsReady_more, IsSchedule_more, Sets_row, first_word, next_at-schedule}
use Rattle.road_sha.proofs.lanes.fill.Goals as goal

pub first-preserved : goal.first-preserved
first-preserved c =
    let w = c.first.words in
    let t = c.first.t in (
      omega arith,
      λ j h.
          let b = block_at c.args.blocks.now j in
          IsSchedule_more w _ b j t _ (Sets_row w _ c.first_row-row.result j t c.put_row.ensures (omega arith) c.first.invariant.0 (omega arith) h)
          (first_word b t _ (omega arith) (c.first_row-row.ensures j h)) (c.first.invariant.1 j h),
    )

pub next-preserved : goal.next-preserved
next-preserved c =
    let w = c.next.words in
    let t = c.next.t in (
      omega arith,
      λ j h.
          let b = block_at c.args.blocks.now j in
          IsSchedule_more w _ b j t _ (Sets_row w _ c.next_row-row.result j t c.put_row-in-next.ensures (omega arith) c.next.invariant.0 (omega arith) h)
          (c.next_row-row.ensures j h ∙ next_at-schedule w b j t (omega arith) (omega arith) (c.next.invariant.1 j h)) (c.next.invariant.1 j h),
    )

pub constants-preserved : goal.constants-preserved
constants-preserved c =
    let w = c.constants.words in
    let t = c.constants.t in (
      omega arith,
      λ j h.
          let b = block_at c.args.blocks.now j in
          let held = c.constants.invariant.1 j h in
          let word : slice_index c.add-row.result j ≡ add32 (slice_index w (4 * t + j)) (slice_index round_constants t) =
          rw (c.add-row.ensures j h, lane_of w _ (4 * t) j c.row.ensures h, splat_lane (slice_index round_constants t) j h) refl in
          IsReady_more w _ b j t _ (Sets_row w _ c.add-row.result j t c.put_row-in-constants.ensures (omega arith) c.constants.invariant.0 (omega arith) h)
          (omega arith) word held.0 held.1,
    )

pub returns : goal.returns
returns c = λ j h t lt. (c.constants.invariant.1 j h).0 t (omega arith)
