-- A call of a shared keeper, as a call of the keeper under the lock between two states that others may have made.

use Rattle.std.specs.Prelude.{◌≡◌, ℕ, ◌≤◌, Option, Some, Result}
use Rattle.road_io.specs.Faults.{Rose}
use Rattle.keep_office.specs.declared.kept.KeepFault.{KeepFault}
use Rattle.keep_office.specs.declared.kept.KeepFault.TheVariants.{Failed}
use Rattle.keep_office.specs.Office.{Office}
use Rattle.keep_office.specs.Calls.{Reads, SoundIfTold, CountsFaults}

-- a call that reads was one of the keeper that is shared: of two states that it had, the first was left as it was, and
-- what it keeps was answered
pub record ReadsShared {K T : Type 0} (told : K → Option Office) (faults : K → ℕ) (r : Result T KeepFault)
    (P : Office → T → Type 0) : Type 0 where
  pub was : K
  pub now : K
  pub reads : Reads (told was) (told now) r P
  pub sound : SoundIfTold (told now)
  pub counts : CountsFaults (faults was) (faults now) r

-- where a call that was refused failed, the count of the keeper that is shared rose between two states that it had
abbrev pub FailsShared : {K : Type 0} → (K → ℕ) → KeepFault → Type 0
FailsShared {K} faults fault = fault ≡ Failed → (was : K) × (now : K) × Rose (faults was) (faults now)

-- a put was one of the keeper that is shared: between two states that it had it did so to what it kept
pub record PutsShared {K : Type 0} (told : K → Option Office) (faults : K → ℕ) (Did : Office → Option Office → Type 0) :
    Type 0 where
  pub was : K
  pub now : K
  pub did : (o : Office) → told was ≡ Some o → Did o (told now)
  pub later : faults was ≤ faults now
