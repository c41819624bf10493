-- the generator goes on by one step at each draw
use Rattle.std.proofs.Common.{◌≡◌, ℕ, suc, refl}
use Rattle.rand_pcg.specs.Lcg.{Lcg}
use Rattle.day_plan.specs.Draws.{drawn, after_draws}

pub none_drawn : (g : Lcg) → after_draws 0 g ≡ g
unfolding after_draws
none_drawn g = refl

pub one_drawn : (n k : ℕ) (g : Lcg) → (drawn n (after_draws k g)).1 ≡ after_draws (suc k) g
unfolding drawn after_draws
one_drawn n k g = refl
