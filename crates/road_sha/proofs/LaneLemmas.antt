-- Each lane of an operation on four words side by side is that operation on one word.
use Rattle.std.proofs.Common.{◌≡◌, ℕ, zero, suc, ◌<◌, ◌≤◌, ◌+◌, ◌*◌, ◌/◌, ◌%◌, ◌^◌, List, [], ◌∷◌, length, slice_index, bit_or, bit_xor, arith, refl, sym, ap, ap₂, ◌∙◌}
use Rattle.std.proofs.lemmas.Simd.{get_or-chunk, get_or-zip2, length-zip2}
use Rattle.std.proofs.lemmas.List.{get_or-replicate}
use Rattle.std.specs.Simd.Lanes.{zip2, chunk}
use Rattle.sha2.specs.Sha256.{small_sigma0, small_sigma1, word_at}
use Rattle.road_sha.specs.Words.{block_at}

-- four words are those of f, place by place
pub lanes_are : (f : ℕ → ℕ) {a b c d : ℕ} → a ≡ f 0 → b ≡ f 1 → c ≡ f 2 → d ≡ f 3 → (j : ℕ) → j < 4 → slice_index (a ∷ b ∷ c ∷ d ∷ []) j ≡ f j
lanes_are f ea eb ec ed zero h = ea
lanes_are f ea eb ec ed (suc zero) h = eb
lanes_are f ea eb ec ed (suc (suc zero)) h = ec
lanes_are f ea eb ec ed (suc (suc (suc zero))) h = ed
lanes_are f ea eb ec ed (suc (suc (suc (suc n)))) h = absurd (omega arith)

-- each of the four lanes of y has g of that lane of x
abbrev Maps : (ℕ → ℕ) → List ℕ → List ℕ → Type 0
Maps g x y = (length y ≡ 4) × ((j : ℕ) → j < 4 → slice_index y j ≡ g (slice_index x j))

-- a vector is itself
itself : (x : List ℕ) → length x ≡ 4 → Maps (λ n. n) x x
itself x four = (four, λ j h. refl)

-- the same number in each lane
everywhere : (x : List ℕ) (k : ℕ) → Maps (λ _. k) x (k ∷ k ∷ k ∷ k ∷ [])
everywhere x k = (refl, λ j h. get_or-replicate 4 j k 0 h)

-- two vectors joined lane by lane
joined : (op : ℕ → ℕ → ℕ) (g h : ℕ → ℕ) (x y z : List ℕ) → Maps g x y → Maps h x z → Maps (λ n. op (g n) (h n)) x (zip2 op y z)
joined op g h x y z of_y of_z = (
  length-zip2 op y z (of_y.0 ∙ sym of_z.0) ∙ of_y.0,
  λ j lt.
      get_or-zip2 op y z j 0 0 0 (omega (arith, of_y.0)) (omega (arith, of_z.0)) ∙ ap₂ op (of_y.1 j lt) (of_z.1 j lt),
)

abbrev down : ℕ → ℕ → ℕ
down n k = n / 2 ^ k

abbrev up : ℕ → ℕ → ℕ
up n k = n * 2 ^ k % 2 ^ 32

-- each lane of x shifted by k places
shifted : (op : ℕ → ℕ → ℕ) (k : ℕ) (x : List ℕ) → length x ≡ 4 → Maps (λ n. op n k) x (zip2 op x (k ∷ k ∷ k ∷ k ∷ []))
shifted op k x four = joined op (λ n. n) (λ _. k) x x (k ∷ k ∷ k ∷ k ∷ []) (itself x four) (everywhere x k)

-- each lane of x turned by k places, by two shifts
turned : (k l : ℕ) (x : List ℕ) → length x ≡ 4
    → Maps (λ n. bit_or (down n k) (up n l)) x (zip2 bit_or (zip2 down x (k ∷ k ∷ k ∷ k ∷ [])) (zip2 up x (l ∷ l ∷ l ∷ l ∷ [])))
turned k l x four =
    joined bit_or (λ n. down n k) (λ n. up n l) x _ _ (shifted down k x four) (shifted up l x four)

-- two turns and a shift, joined
mixed : (a b c d k : ℕ) (x : List ℕ) → length x ≡ 4
    → Maps (λ n. bit_xor (bit_xor (bit_or (down n a) (up n b)) (bit_or (down n c) (up n d))) (down n k)) x
    (zip2 bit_xor (zip2 bit_xor (zip2 bit_or (zip2 down x (a ∷ a ∷ a ∷ a ∷ [])) (zip2 up x (b ∷ b ∷ b ∷ b ∷ [])))
    (zip2 bit_or (zip2 down x (c ∷ c ∷ c ∷ c ∷ [])) (zip2 up x (d ∷ d ∷ d ∷ d ∷ [])))) (zip2 down x (k ∷ k ∷ k ∷ k ∷ [])))
mixed a b c d k x four =
    let one : ℕ → ℕ = λ n. bit_or (down n a) (up n b) in
    let other : ℕ → ℕ = λ n. bit_or (down n c) (up n d) in
    joined bit_xor (λ n. bit_xor (one n) (other n)) (λ n. down n k) x _ _ (joined bit_xor one other x _ _ (turned a b x four) (turned c d x four)) (shifted down k x four)

abbrev Sigma0Lanes : List ℕ → Type 0
Sigma0Lanes x = (j : ℕ) → j < 4
    → slice_index (zip2 bit_xor (zip2 bit_xor (zip2 bit_or (zip2 down x (7 ∷ 7 ∷ 7 ∷ 7 ∷ [])) (zip2 up x (25 ∷ 25 ∷ 25 ∷ 25 ∷ [])))
    (zip2 bit_or (zip2 down x (18 ∷ 18 ∷ 18 ∷ 18 ∷ [])) (zip2 up x (14 ∷ 14 ∷ 14 ∷ 14 ∷ [])))) (zip2 down x (3 ∷ 3 ∷ 3 ∷ 3 ∷ []))) j
    ≡ small_sigma0 (slice_index x j)

pub sigma0_lanes : (x : List ℕ) → length x ≡ 4 → Sigma0Lanes x
sigma0_lanes x four = (mixed 7 25 18 14 3 x four).1

abbrev Sigma1Lanes : List ℕ → Type 0
Sigma1Lanes x = (j : ℕ) → j < 4
    → slice_index (zip2 bit_xor (zip2 bit_xor (zip2 bit_or (zip2 down x (17 ∷ 17 ∷ 17 ∷ 17 ∷ [])) (zip2 up x (15 ∷ 15 ∷ 15 ∷ 15 ∷ [])))
    (zip2 bit_or (zip2 down x (19 ∷ 19 ∷ 19 ∷ 19 ∷ [])) (zip2 up x (13 ∷ 13 ∷ 13 ∷ 13 ∷ [])))) (zip2 down x (10 ∷ 10 ∷ 10 ∷ 10 ∷ []))) j
    ≡ small_sigma1 (slice_index x j)

pub sigma1_lanes : (x : List ℕ) → length x ≡ 4 → Sigma1Lanes x
sigma1_lanes x four = (mixed 17 15 19 13 10 x four).1

-- a lane of a load
pub lane_of : (words row : List ℕ) (i j : ℕ) → row ≡ chunk i 4 words → j < 4 → slice_index row j ≡ slice_index words (i + j)
lane_of words row i j e h = rw e (get_or-chunk i 4 words j 0 h)

byte_at_block : (b : List ℕ) (j i a : ℕ) → i < 64 → a ≡ j * 64 + i → slice_index b a ≡ slice_index (block_at b j) i
byte_at_block b j i a h e = sym (get_or-chunk (j * 64) 64 b i 0 h ∙ ap (λ (n : ℕ). slice_index b n) (sym e))

-- a word of block j, read from all the bytes
pub word_at_block : (b : List ℕ) (j i a : ℕ) → i + 4 ≤ 64 → a ≡ j * 64 + i → word_at b a ≡ word_at (block_at b j) i
word_at_block b j i a h e =
    let e0 : slice_index b a ≡ slice_index (block_at b j) i = byte_at_block b j i a (omega arith) e in
    let e1 : slice_index b (a + 1) ≡ slice_index (block_at b j) (i + 1) = byte_at_block b j (i + 1) (a + 1) (omega arith) (omega arith) in
    let e2 : slice_index b (a + 2) ≡ slice_index (block_at b j) (i + 2) = byte_at_block b j (i + 2) (a + 2) (omega arith) (omega arith) in
    let e3 : slice_index b (a + 3) ≡ slice_index (block_at b j) (i + 3) = byte_at_block b j (i + 3) (a + 3) (omega arith) (omega arith) in
    rw (e0, e1, e2, e3) refl

-- a lane of a splat
pub splat_lane : (k j : ℕ) → j < 4 → slice_index (k ∷ k ∷ k ∷ k ∷ []) j ≡ k
splat_lane k j h = get_or-replicate 4 j k 0 h
