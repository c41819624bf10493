-- Whose fault stops an import.
use Rattle.std.specs.Prelude.{ℕ, ◌≡◌, ◌≢◌, ◌≤◌, Bool, true, Option, Some, None}
use Rattle.road_io.specs.Faults.{Rose}
use Rattle.road_io.specs.Plans.{NeverFails}
use Rattle.day_import.specs.declared.outcomes.Outcome.{Outcome}
use Rattle.day_import.specs.declared.outcomes.Outcome.TheVariants.{WriteFault, KeeperFault}

-- the count of faults of an object that is asked beside others never falls, it rose where that object failed, and one
-- that plans no failing call does not fail; where the call tells no fault of another, the count stands unless it failed
pub record FaultsBeside (before now : ℕ) (plan : Option (ℕ → Bool)) (failed quiet : Type 0) : Type 0 where
  pub later : before ≤ now
  pub cause : failed → Rose before now
  pub still : (failed → ⊥) → quiet → now ≡ before
  pub sure : NeverFails plan → failed → ⊥

-- neither the sink nor the keeper failed: a fault of the source is not called want of memory
abbrev pub NamesNoOther : Outcome → Type 0
NamesNoOther result = (result ≢ WriteFault) × (result ≢ KeeperFault)

-- the next call to a keeper is planned to fail
abbrev pub FailsNext : Option (ℕ → Bool) → Type 0
FailsNext None = ⊥
FailsNext (Some p) = p 0 ≡ true
