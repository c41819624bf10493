-- Who is to blame: a keeper whose next call is planned to fail, and a source that failed beside others.
use Rattle.std.proofs.Common.{◌≡◌, ◌∙◌, ℕ, Bool, true, Option, Some, None, Result, Ok, Err, refl, sym, ap}
use Rattle.road_io.specs.Plans.{NeverFails}
use Rattle.keep_office.specs.declared.kept.KeepFault.{KeepFault}
use Rattle.keep_office.specs.declared.kept.KeepFault.TheVariants.{Failed, NoMemory}
use Rattle.keep_office.specs.Calls.{has_failed, GoesAsPlanned}
use Rattle.day_import.specs.DayFaults.{IsCountedAhead}
use Rattle.day_import.specs.declared.fault.DayFault.{DayFault}
use Rattle.day_import.specs.declared.fault.DayFault.TheVariants as stop
use Rattle.day_import.specs.Faults.{FailsNext, FaultsBeside, NamesNoOther}
use Rattle.day_import.specs.Runs.{refused_outcome, stopped_outcome}
use Rattle.day_import.specs.declared.outcomes.Outcome.{Outcome}
use Rattle.day_import.specs.declared.outcomes.Outcome.TheVariants.{ReadFault, KeeperFault}

-- what has failed is that
is_failed : {T : Type 0} (r : Result T KeepFault) → has_failed r ≡ true → r ≡ Err Failed
is_failed (Ok x) e = let bad : ⊥ = cc in absurd bad
is_failed (Err Failed) e = refl
is_failed (Err NoMemory) e = let bad : ⊥ = cc in absurd bad

-- a call that is planned to fail does
pub fails_next : {T : Type 0} (before after : Option (ℕ → Bool)) (r : Result T KeepFault) →
    GoesAsPlanned before after r → FailsNext before → r ≡ Err Failed
fails_next None after r goes fails = absurd fails
fails_next (Some p) None r goes fails = absurd goes
fails_next (Some p) (Some q) r goes fails = is_failed r (goes.0 ∙ fails)

one_fault : {T : Type 0} (r : Result T KeepFault) (a b : KeepFault) → r ≡ Err a → r ≡ Err b → a ≡ b
one_fault r a b here there = cc

-- so the day ends by it
pub fails_outcome : {T : Type 0} (r : Result T KeepFault) (fault : KeepFault) (outcome : Outcome) →
    outcome ≡ refused_outcome fault → r ≡ Err fault → r ≡ Err Failed → outcome ≡ KeeperFault
fails_outcome r fault outcome is here failed = is ∙ ap refused_outcome (one_fault r fault Failed here failed)

-- and in no other way
pub fails_only : {T : Type 0} (r : Result T KeepFault) (x : T) → r ≡ Ok x → r ≡ Err Failed → ⊥
fails_only r x ok failed = cc

-- a day ends by its source's fault where its work was stopped by it
read_stopped : (fault : DayFault) → stopped_outcome fault ≡ ReadFault → fault ≡ stop.ReadFault
read_stopped stop.ReadFault e = refl
read_stopped stop.WriteFault e = let bad : ⊥ = cc in absurd bad
read_stopped stop.KeeperFault e = let bad : ⊥ = cc in absurd bad
read_stopped stop.NoMemory e = let bad : ⊥ = cc in absurd bad

one_stop : {T : Type 0} (r : Result T DayFault) (a b : DayFault) → r ≡ Err a → r ≡ Err b → a ≡ b
one_stop r a b here there = cc

-- the source of a day whose work was stopped
pub source_stopped : {T : Type 0} (fault : DayFault) (outcome : Outcome) (r : Result T DayFault) (before now : ℕ)
    (plan : Option (ℕ → Bool)) (left : Type 0) → outcome ≡ stopped_outcome fault → r ≡ Err fault →
    IsCountedAhead stop.ReadFault before now (NeverFails plan) left r →
    FaultsBeside before now plan (outcome ≡ ReadFault) (NamesNoOther outcome)
source_stopped fault outcome r before now plan left is here s =
    record {
      later = s.later;
      cause = λ e. s.cause (here ∙ ap Err (read_stopped fault (sym is ∙ e)));
      still = λ unread quiet. s.still (λ e. unread (is ∙ ap stopped_outcome (one_stop r fault stop.ReadFault here e)))
          (λ e. quiet.0 (is ∙ ap stopped_outcome (one_stop r fault stop.WriteFault here e)))
          (λ e. quiet.1 (is ∙ ap stopped_outcome (one_stop r fault stop.KeeperFault here e)));
      sure = λ never e. (s.sure never).0 (here ∙ ap Err (read_stopped fault (sym is ∙ e)));
    }
