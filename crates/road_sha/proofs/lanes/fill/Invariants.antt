use Rattle.std.proofs.Common.{◌≡◌, ℕ, ◌<◌, length}
use Rattle.road_sha.specs.Words.{IsReadyTo, IsSchedule, block_at}
use Rattle.road_sha.proofs.lanes.fill.Given as goal

abbrev pub invariant-first : goal.invariant-first
invariant-first l = (length l.words ≡ 256) × ((j : ℕ) → j < 4 → IsSchedule l.words j (block_at l.blocks j) 0 l.t)

abbrev pub invariant-next : goal.invariant-next
invariant-next l = (length l.words ≡ 256) × ((j : ℕ) → j < 4 → IsSchedule l.words j (block_at l.blocks j) 0 l.t)

abbrev pub invariant-constants : goal.invariant-constants
invariant-constants l = (length l.words ≡ 256)
    × ((j : ℕ) → j < 4 → IsReadyTo l.words j (block_at l.blocks j) l.t × IsSchedule l.words j (block_at l.blocks j) l.t 64)
