-- Rounds over a lane, and blocks one after another.
use Rattle.std.proofs.Common.{◌≡◌, ℕ, zero, suc, ◌≤◌, ◌+◌, ◌-◌, ◌*◌, List, take, drop, slice_index, add-zero, arith, refl, sym, ap, ◌∙◌}
use Rattle.std.proofs.lemmas.List.{drop-take, drop-drop, take-take}
use Rattle.sha2.specs.Sha256.{add32, hash_after, round, round_constants, rounds, schedule}
use Rattle.sha2.proofs.Schedule256.{rounds_next}
use Rattle.sha2.proofs.Absorbing256.{hash_after_next}
use Rattle.road_sha.specs.Words.{IsReady}

-- a round that takes its word from the table is the next of the block
pub one_round : (words b h v next : List ℕ) (lane t ready : ℕ) → IsReady words lane b → t + 1 ≤ 64 → ready ≡ slice_index words (4 * t + lane)
    → ((k word : ℕ) → ready ≡ add32 word k → next ≡ round v k word) → v ≡ rounds h (schedule b 48) t → next ≡ rounds h (schedule b 48) (t + 1)
one_round words b h v next lane t ready is_ready low e does held =
    let ws = schedule b 48 in
    does (slice_index round_constants t) (slice_index ws t) (e ∙ is_ready t (omega arith)) ∙ rw held (sym (rounds_next h ws t))

-- the same count of rounds in another form
pub rounds_at : (b h : List ℕ) (n m : ℕ) {v : List ℕ} → n ≡ m → v ≡ rounds h (schedule b 48) n → v ≡ rounds h (schedule b 48) m
rounds_at b h n m same held = held ∙ ap (rounds h (schedule b 48)) same

-- the hash value after n blocks, and then after k blocks of the part from there on
pub hash_after_part : (h p : List ℕ) (n len k : ℕ) → k * 64 ≤ len → hash_after (hash_after h p n) (take len (drop (n * 64) p)) k ≡ hash_after h p (n + k)
unfolding hash_after
hash_after_part h p n len zero fits = rw add-zero refl
hash_after_part h p n len (suc k) fits =
    let rest = drop (n * 64) p in
    let size : len ≡ k * 64 + (len - k * 64) = omega arith in
    let cut : drop (k * 64) (take len rest) ≡ take (len - k * 64) (drop (k * 64) rest) =
    ap (λ (a : ℕ). drop (k * 64) (take a rest)) size ∙ drop-take (k * 64) (len - k * 64) rest in
    let place : k * 64 + n * 64 ≡ (n + k) * 64 = omega arith in
    let block : take 64 (drop (k * 64) (take len rest)) ≡ take 64 (drop ((n + k) * 64) p) =
    rw (cut, take-take 64 (len - k * 64) (drop (k * 64) rest) (omega arith)) (ap (take 64) (drop-drop (k * 64) (n * 64) p ∙ ap (λ (a : ℕ). drop a p) (omega arith))) in
    let count : n + suc k ≡ n + k + 1 = omega arith in
    rw (hash_after_part h p n len k (omega arith), block, count, hash_after_next h p (n + k)) refl
