-- The majority of each bit of three words, in fewer operations than the standard's.
use Rattle.std.proofs.Common.{◌≡◌, ℕ, ◌+◌, ◌%◌, ◌<◌, min, bit_and, bit_xor, arith, refl, ◌∙◌, sym}
use Rattle.std.proofs.lemmas.Nat.Bits.{bit_at-lt, bit_at_and, bit_at_xor, same_from_bits}
use Rattle.std.specs.Int.{bit_at}

-- the bit of a majority, from the bits p, q and r of the three words
abbrev most : ℕ → ℕ → ℕ → ℕ
most p q r = ((min p q + min p r) % 2 + min q r) % 2

-- what the fewer operations do to bits
few_are_most : (p q r : ℕ) → p < 2 → q < 2 → r < 2 → (min ((p + q) % 2) ((q + r) % 2) + q) % 2 ≡ most p q r
few_are_most p q r hp hq hr = omega arith

-- bit i of the standard's majority
bit_of_standard : (x y z i : ℕ) → bit_at (bit_xor (bit_xor (bit_and x y) (bit_and x z)) (bit_and y z)) i ≡ most (bit_at x i) (bit_at y i) (bit_at z i)
bit_of_standard x y z i =
    rw (bit_at_xor (bit_xor (bit_and x y) (bit_and x z)) (bit_and y z) i, bit_at_xor (bit_and x y) (bit_and x z) i, bit_at_and x y i, bit_at_and x z i, bit_at_and y z i) refl

-- bit i of ours
bit_of_few : (x y z i : ℕ) → bit_at (bit_xor (bit_and (bit_xor x y) (bit_xor y z)) y) i ≡ most (bit_at x i) (bit_at y i) (bit_at z i)
bit_of_few x y z i =
    rw (bit_at_xor (bit_and (bit_xor x y) (bit_xor y z)) y i, bit_at_and (bit_xor x y) (bit_xor y z) i, bit_at_xor x y i, bit_at_xor y z i)
    (few_are_most _ _ _ (bit_at-lt x i) (bit_at-lt y i) (bit_at-lt z i))

pub majority : (x y z : ℕ) → bit_xor (bit_and (bit_xor x y) (bit_xor y z)) y ≡ bit_xor (bit_xor (bit_and x y) (bit_and x z)) (bit_and y z)
majority x y z = same_from_bits _ _ (λ i. bit_of_few x y z i ∙ sym (bit_of_standard x y z i))
