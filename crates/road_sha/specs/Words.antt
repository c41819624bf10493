-- A table of words: word t of the block in lane j is at place 4 * t + j.
use Rattle.std.specs.Prelude.{ℕ, ◌≡◌, ◌<◌, ◌≤◌, ◌+◌, ◌-◌, ◌*◌, List, take, drop, slice_index}
use Rattle.sha2.specs.Sha256.{add32, round_constants, schedule, small_sigma0, small_sigma1}

-- block j of some bytes
abbrev pub block_at : List ℕ → ℕ → List ℕ
block_at bytes j = take 64 (drop (j * 64) bytes)

-- word t of lane j, from the words before it (FIPS 180-4, 6.2.2, step 1)
abbrev pub next_at : List ℕ → ℕ → ℕ → ℕ
next_at w t j = add32 (add32 (add32 (small_sigma1 (slice_index w (4 * (t - 2) + j))) (slice_index w (4 * (t - 7) + j)))
    (small_sigma0 (slice_index w (4 * (t - 15) + j)))) (slice_index w (4 * (t - 16) + j))

-- from word a to the word before n, lane j has the schedule of block b
abbrev pub IsSchedule : List ℕ → ℕ → List ℕ → ℕ → ℕ → Type 0
IsSchedule w j b a n = (t : ℕ) → t < n → a ≤ t → slice_index w (4 * t + j) ≡ slice_index (schedule b 48) t

-- up to word n, lane j has the schedule of block b, to each word of which its round's constant is added
abbrev pub IsReadyTo : List ℕ → ℕ → List ℕ → ℕ → Type 0
IsReadyTo w j b n =
    (t : ℕ) → t < n → slice_index w (4 * t + j) ≡ add32 (slice_index (schedule b 48) t) (slice_index round_constants t)

abbrev pub IsReady : List ℕ → ℕ → List ℕ → Type 0
IsReady w j b = IsReadyTo w j b 64
