-- The generator of a seed (PCG32), and a draw below a number.

use Rattle.std.specs.Prelude.{ℕ, zero, suc, ◌%◌}
use Rattle.rand_core.specs.Pcg32Seed.{pcg32_seed}
use Rattle.rand_pcg.specs.Lcg.{Lcg}
use Rattle.rand_pcg.specs.Pcg.{pcg32, pcg32_of_seed}

-- the generator that a seed makes
unfoldable pub seeded : ℕ → Lcg
seeded seed = pcg32_of_seed (pcg32_seed 16 seed)

-- a draw below a number, and the generator after it
unfoldable pub drawn : ℕ → Lcg → ℕ × Lcg
drawn n g = ((pcg32 g).0 % n, (pcg32 g).1)

-- the generator after some draws, whatever they are below
unfoldable pub after_draws : ℕ → Lcg → Lcg
after_draws zero g = g
after_draws (suc n) g = (pcg32 (after_draws n g)).1
