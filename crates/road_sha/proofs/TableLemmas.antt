-- The table of words as its rows are written one after another.
use Rattle.std.proofs.Common.{◌≡◌, ℕ, ◌<◌, ◌≤◌, ◌+◌, ◌-◌, ◌*◌, List, length, drop, slice_index, arith, sym, ap, ◌∙◌, inl, inr}
use Rattle.std.proofs.lemmas.Simd.{get_or-put_chunk_above, get_or-put_chunk_at, get_or-put_chunk_below, put_chunk_is, put_chunk_whole}
use Rattle.std.proofs.lemmas.List.{length-drop, length-take-le}
use Rattle.std.proofs.lemmas.Bool.{cases_lt}
use Rattle.std.specs.Simd.Lanes.{put_chunk}
use Rattle.sha2.specs.Sha256.{add32, round_constants, schedule, word_at}
use Rattle.sha2.proofs.Schedule256.{slice_index-schedule_first, slice_index-schedule_next}
use Rattle.road_sha.specs.Words.{IsReadyTo, IsSchedule, next_at}
use borrow.Rule.Slice.PartMut.{put_mid, mid_of}

-- a store into four places is a store at the first of them
pub put_mid-chunk : (w r : List ℕ) (i k : ℕ) → k ≡ 4 → length r ≡ 4 → i + 4 ≤ length w → put_mid i k w (put_chunk 0 (mid_of i k w) r) ≡ put_chunk i w r
put_mid-chunk w r i k four long fits =
    let middle : length (mid_of i k w) ≡ length r = length-take-le k (drop i w) (omega (arith, length-drop i w)) ∙ four ∙ sym long in
    let all : put_chunk 0 (mid_of i k w) r ≡ r = put_chunk_whole (mid_of i k w) r middle in
    let same : k ≡ length r = omega arith in
    rw (all, same) (sym (put_chunk_is i w r (omega arith)))

-- a table that differs from w in word t of lane j alone, as far as lane j goes
abbrev pub Sets : List ℕ → List ℕ → ℕ → ℕ → ℕ → Type 0
Sets w next j t x = (slice_index next (4 * t + j) ≡ x) × ((k : ℕ) → k < t → slice_index next (4 * k + j) ≡ slice_index w (4 * k + j))
    × ((k : ℕ) → t < k → slice_index next (4 * k + j) ≡ slice_index w (4 * k + j))

pub Sets_row : (w next r : List ℕ) (j t : ℕ) → next ≡ put_chunk (4 * t) w r → length r ≡ 4 → length w ≡ 256 → t < 64 → j < 4 → Sets w next j t (slice_index r j)
Sets_row w next r j t e four long lt lane = (
  rw e (get_or-put_chunk_at (4 * t) w r j 0 (omega arith) (omega arith)),
  (λ k h. rw e (get_or-put_chunk_below (4 * t) w r (4 * k + j) 0 (omega arith))),
  (λ k h. rw e (get_or-put_chunk_above (4 * t) w r (4 * k + j) 0 (omega arith))),
)

-- one more word of the schedule
pub IsSchedule_more : (w next b : List ℕ) (j t x : ℕ) → Sets w next j t x → x ≡ slice_index (schedule b 48) t → IsSchedule w j b 0 t → IsSchedule next j b 0 (t + 1)
IsSchedule_more w next b j t x sets e held k h low = elim (cases_lt k t) [
  | inl lt ↦ sets.1 k lt ∙ held k lt low
  | inr ge ↦
      let same : k ≡ t = omega arith in
      rw same (sets.0 ∙ e)
]

-- word t is computed from those before it
pub next_at-schedule : (w b : List ℕ) (j t : ℕ) → 16 ≤ t → t < 64 → IsSchedule w j b 0 t → next_at w t j ≡ slice_index (schedule b 48) t
next_at-schedule w b j t low lt held =
    rw (held (t - 2) (omega arith) (omega arith), held (t - 7) (omega arith) (omega arith), held (t - 15) (omega arith) (omega arith), held (t - 16) (omega arith) (omega arith))
    (sym (slice_index-schedule_next b 48 t low (omega arith)))

pub first_word : (b : List ℕ) (t x : ℕ) → t < 16 → x ≡ word_at b (4 * t) → x ≡ slice_index (schedule b 48) t
first_word b t x lt e = e ∙ sym (slice_index-schedule_first b 48 t lt)

-- one more word with its constant
pub IsReady_more : (w next b : List ℕ) (j t x : ℕ) → Sets w next j t x → t < 64 → x ≡ add32 (slice_index w (4 * t + j)) (slice_index round_constants t)
    → IsReadyTo w j b t → IsSchedule w j b t 64 → IsReadyTo next j b (t + 1) × IsSchedule next j b (t + 1) 64
IsReady_more w next b j t x sets lt e ready held = (
  (λ k h. elim (cases_lt k t) [
    | inl less ↦ sets.1 k less ∙ ready k less
    | inr ge ↦
        let same : k ≡ t = omega arith in
        rw same (sets.0 ∙ e ∙ ap (λ (y : ℕ). add32 y (slice_index round_constants t)) (held t lt (omega arith)))
  ]),
  (λ k h low. sets.2 k (omega arith) ∙ held k h (omega arith)),
)
