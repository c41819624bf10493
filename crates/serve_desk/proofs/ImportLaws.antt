-- Laws of a day that is imported from a body.
use Rattle.std.proofs.Common.{◌≡◌, ℕ, ◌≤◌, List, [], ◌∷◌, length, take, zero, suc, refl, ap, subst, arith}
use Rattle.day_import.specs.declared.outcomes.AnsweredDay.{AnsweredDay}
use Rattle.day_import.specs.declared.outcomes.Outcome.{Outcome}
use Rattle.day_import.specs.declared.outcomes.Outcome.TheVariants.{Stored, Already, Answered, Refused, DayPassed}
use Rattle.day_import.specs.declared.outcomes.Outcome.TheVariants.{Differs, ReadFault, WriteFault, KeeperFault}
use Rattle.day_import.specs.declared.outcomes.Outcome.TheVariants.{NoMemory}
use Rattle.day_import.specs.Imports.{LeavesAlone}
use Rattle.serve_requests.specs.AskedBodies.{filled}

-- a body that was there is the first of the bytes
pub filled_whole : (n : ℕ) (xs : List ℕ) → n ≤ length xs → filled n xs ≡ take n xs
filled_whole zero xs h = refl
filled_whole (suc n) [] h = absurd (omega arith)
filled_whole (suc n) (x ∷ xs) h = ap (λ l. x ∷ l) (filled_whole n xs (omega arith))

-- what is left alone is so in other words
pub alone_as : {S T A B : Type 0} (outcome : Outcome) → (S → T) → (A → B) → LeavesAlone outcome S A →
    LeavesAlone outcome T B
alone_as (Stored kept) f g h = tt
alone_as (Already kept) f g h = g h
alone_as (Answered kept) f g h = h
alone_as (Refused line cause) f g h = tt
alone_as (DayPassed last) f g h = (f h.0, g h.1)
alone_as (Differs kept found) f g h = g h
alone_as ReadFault f g h = tt
alone_as WriteFault f g h = tt
alone_as KeeperFault f g h = tt
alone_as NoMemory f g h = tt

-- an outcome that cannot be another is that the keeper failed
pub keeper_failed : (outcome : Outcome) → ((outcome ≡ KeeperFault → ⊥) → ⊥) → outcome ≡ KeeperFault
keeper_failed (Stored kept) h = absurd (h (λ e. cc e))
keeper_failed (Already kept) h = absurd (h (λ e. cc e))
keeper_failed (Answered kept) h = absurd (h (λ e. cc e))
keeper_failed (Refused line cause) h = absurd (h (λ e. cc e))
keeper_failed (DayPassed last) h = absurd (h (λ e. cc e))
keeper_failed (Differs kept found) h = absurd (h (λ e. cc e))
keeper_failed ReadFault h = absurd (h (λ e. cc e))
keeper_failed WriteFault h = absurd (h (λ e. cc e))
keeper_failed KeeperFault h = refl
keeper_failed NoMemory h = absurd (h (λ e. cc e))

-- an import that leaves what it should alone answered no day
pub not_answered : (outcome : Outcome) (day : AnsweredDay) → LeavesAlone outcome (Unit {0}) (Unit {0}) →
    outcome ≡ Answered day → ⊥
not_answered outcome day h e = subst (λ o. LeavesAlone o (Unit {0}) (Unit {0})) e h
