-- What a command wrote and kept, from what importing or answering its day did.
use Rattle.std.proofs.Common.{◌≡◌, ◌≢◌, ◌⊎◌, ◌∙◌, inl, inr, ℕ, Bool, List, take, Option, Some, None, Result}
use Rattle.std.proofs.Common.{Ok, Err, OnErr, refl, sym, ap, subst, IsErr}
use Rattle.std.specs.Io.KnownBytes.{Appends}
use Rattle.road_io.specs.declared.source.Failed.{Failed}
use Rattle.keep_office.specs.declared.kept.KeepFault.{KeepFault}
use Rattle.keep_office.specs.Calls.{WhenRefused}
use Rattle.keep_office.specs.Office.{Office}
use Rattle.day_import.specs.Imports.{Does, KeepsAll}
use Rattle.day_import.specs.declared.outcomes.Outcome.{Outcome}
use Rattle.day_import.specs.declared.outcomes.Outcome.TheVariants.{Stored, Already, Answered, Refused, DayPassed}
use Rattle.day_import.specs.declared.outcomes.Outcome.TheVariants.{Differs, ReadFault, WriteFault, KeeperFault}
use Rattle.day_import.specs.declared.outcomes.Outcome.TheVariants.{NoMemory}
use Rattle.office_commands.specs.declared.closing.Closing.{Closing}
use Rattle.office_commands.specs.Commands.{closing_by, row_by}
use Rattle.office_commands.specs.Closings.{status_of}
use Rattle.office_commands.specs.Endings.{Wrote, Keeps, EndsCommand, Halted, Did, HoldsSame, code_of}
use Rattle.office_commands.proofs.ClosingLaws.{whole_front}
use Rattle.road_io.specs.Blame.{FaultsByPlan, FaultsByRoom}
use Rattle.road_io.specs.Rooms.{Room}
use Rattle.keep_office.specs.declared.kept.KeepFault.TheVariants as keeping
use Rattle.day_import.specs.Imports as day
use Rattle.day_import.specs.Faults.{FaultsBeside, NamesNoOther}
use Rattle.office_commands.specs.Faults.{TellsNoOther}
use Rattle.office_commands.specs.declared.closing.Closing.TheVariants as closings

module _ (w : WhenRefused) (number : ℕ) (a : day.DayAnswer) (was : Office) (old new : Option (List ℕ))
    (now : Option Office) where
  -- what the call did
  abbrev DoesIt : Outcome → Type 0
  DoesIt done = Does w a was old new now done

  -- what the command wrote
  abbrev WroteIt : Result (Option Closing) Failed → Type 0
  WroteIt r = Wrote (row_by number a) r old new

  -- and what it keeps
  abbrev KeepsIt : Result (Option Closing) Failed → Type 0
  KeepsIt r = Keeps w (row_by number a) was now r

  -- the text of a call that stored, answered, or said why not, and of one that was stopped
  pub wrote : None ≢ closing_by number a.outcome → (done : Outcome) (r : Result (Option Closing) Failed) →
      EndsCommand (closing_by number done) r → DoesIt done → WroteIt r
  wrote named ReadFault (Ok c) e h =
      subst (λ x. WroteIt (Ok x)) (sym e) (take h.0.0 a.text, ((h.0.0, refl), λ alone. absurd (named alone)), h.0.1)
  wrote named KeeperFault (Ok c) e (inl h) =
      subst (λ x. WroteIt (Ok x)) (sym e) (take h.0.0 a.text, ((h.0.0, refl), λ alone. absurd (named alone)), h.0.1)
  wrote named KeeperFault (Ok c) e (inr h) =
      subst (λ x. WroteIt (Ok x)) (sym e)
      (a.text, (whole_front a.text a.text refl, λ alone. absurd (named alone)), h.0)
  wrote named NoMemory (Ok c) e (inl h) =
      subst (λ x. WroteIt (Ok x)) (sym e) (take h.0.0 a.text, ((h.0.0, refl), λ alone. absurd (named alone)), h.0.1)
  wrote named NoMemory (Ok c) e (inr h) =
      subst (λ x. WroteIt (Ok x)) (sym e)
      (a.text, (whole_front a.text a.text refl, λ alone. absurd (named alone)), h.0)
  wrote named WriteFault (Ok c) e h = absurd e
  wrote named WriteFault (Err x) e h = h.0
  wrote named _ (Err x) e h = absurd e
  wrote named _ (Ok c) e h =
      subst (λ x. WroteIt (Ok x)) (sym e) (a.text, (ap (closing_by number) h.outcome_is, refl), h.wrote)

  -- and what is kept after it
  pub keeps : (done : Outcome) (r : Result (Option Closing) Failed) → EndsCommand (closing_by number done) r →
      DoesIt done → KeepsIt r
  keeps (Stored kept) (Ok c) e h = subst (λ x. KeepsIt (Ok x)) (sym e) h.kept
  keeps (Already kept) (Ok c) e h = subst (λ x. KeepsIt (Ok x)) (sym e) h.kept
  keeps (Answered kept) (Ok c) e h = subst (λ x. KeepsIt (Ok x)) (sym e) h.kept
  keeps (Refused line cause) (Ok c) e h = subst (λ x. KeepsIt (Ok x)) (sym e) h.kept
  keeps (DayPassed last) (Ok c) e h = subst (λ x. KeepsIt (Ok x)) (sym e) h.kept
  keeps (Differs kept found) (Ok c) e h = subst (λ x. KeepsIt (Ok x)) (sym e) h.kept
  keeps ReadFault (Ok c) e h = subst (λ x. KeepsIt (Ok x)) (sym e) h.1
  keeps KeeperFault (Ok c) e (inl h) = subst (λ x. KeepsIt (Ok x)) (sym e) (inl h.1)
  keeps KeeperFault (Ok c) e (inr h) = subst (λ x. KeepsIt (Ok x)) (sym e) (inr h.1)
  keeps NoMemory (Ok c) e (inl h) = subst (λ x. KeepsIt (Ok x)) (sym e) (inl h.1)
  keeps NoMemory (Ok c) e (inr h) = subst (λ x. KeepsIt (Ok x)) (sym e) (inr h.1)
  keeps WriteFault (Ok c) e h = absurd e
  keeps WriteFault (Err x) e h = h.1
  keeps _ (Err x) e h = absurd e

-- what stands behind a call that was stopped
module _ (w : WhenRefused) (number : ℕ) (a : day.DayAnswer) (was : Office) (old new : Option (List ℕ))
    (now : Option Office) where
  -- it is what a fault leaves behind some first bytes
  stopped_did : (fault : KeepFault) → None ≢ closing_by number a.outcome → day.Halts w fault a was old new now →
      (text : List ℕ) × Halted w fault (row_by number a) was text now × Appends old new text
  stopped_did fault named (inl h) =
      (take h.0.0 a.text, ((λ alone. absurd (named alone)), inl ((h.0.0, refl), h.1)), h.0.1)
  stopped_did fault named (inr h) = (a.text, ((λ alone. absurd (named alone)), inr (refl, h.1)), h.0)

  -- what a command wrote and what is kept then
  pub did : None ≢ closing_by number a.outcome → (done : Outcome) (r : Result (Option Closing) Failed) →
      EndsCommand (closing_by number done) r → Does w a was old new now done → Did w (row_by number a) was old new now r
  did named (Stored kept) (Ok c) e h =
      subst (λ x. Did w (row_by number a) was old new now (Ok x)) (sym e)
      (a.text, (ap (closing_by number) h.outcome_is, refl, h.kept), h.wrote)
  did named (Already kept) (Ok c) e h =
      subst (λ x. Did w (row_by number a) was old new now (Ok x)) (sym e)
      (a.text, (ap (closing_by number) h.outcome_is, refl, h.kept), h.wrote)
  did named (Answered kept) (Ok c) e h =
      subst (λ x. Did w (row_by number a) was old new now (Ok x)) (sym e)
      (a.text, (ap (closing_by number) h.outcome_is, refl, h.kept), h.wrote)
  did named (Refused line cause) (Ok c) e h =
      subst (λ x. Did w (row_by number a) was old new now (Ok x)) (sym e)
      (a.text, (ap (closing_by number) h.outcome_is, refl, h.kept), h.wrote)
  did named (DayPassed last) (Ok c) e h =
      subst (λ x. Did w (row_by number a) was old new now (Ok x)) (sym e)
      (a.text, (ap (closing_by number) h.outcome_is, refl, h.kept), h.wrote)
  did named (Differs kept found) (Ok c) e h =
      subst (λ x. Did w (row_by number a) was old new now (Ok x)) (sym e)
      (a.text, (ap (closing_by number) h.outcome_is, refl, h.kept), h.wrote)
  did named ReadFault (Ok c) e h =
      subst (λ x. Did w (row_by number a) was old new now (Ok x)) (sym e)
      (take h.0.0 a.text, (((h.0.0, refl), λ alone. absurd (named alone)), h.1), h.0.1)
  did named KeeperFault (Ok c) e h =
      subst (λ x. Did w (row_by number a) was old new now (Ok x)) (sym e) (stopped_did keeping.Failed named h)
  did named NoMemory (Ok c) e h =
      subst (λ x. Did w (row_by number a) was old new now (Ok x)) (sym e) (stopped_did keeping.NoMemory named h)
  did named WriteFault (Ok c) e h = absurd e
  did named WriteFault (Err x) e h = h
  did named _ (Err x) e h = absurd e

-- the status of a run whose closing line is known
pub code_is : (c : Option Closing) (k : Closing) → c ≡ Some k → code_of (Ok c) ≡ status_of k
code_is c k e = ap (λ x. code_of (Ok x)) e

-- another code is neither that of a refused line nor that of a keeper that failed
pub neither : (code k : ℕ) → code ≡ k → k ≢ 2 → k ≢ 6 → (code ≡ 2) ⊎ (code ≡ 6) → ⊥
neither code k e named failed (inl s) = named (sym e ∙ s)
neither code k e named failed (inr s) = failed (sym e ∙ s)

-- what is kept is as it was, unless a day was stored, the keeper failed or memory ran out
pub held : (number : ℕ) (P : Type 0) (done : Outcome) (r : Result (Option Closing) Failed) →
    EndsCommand (closing_by number done) r → KeepsAll done P → HoldsSame (code_of r) P
held number P (Stored kept) (Ok c) e h = λ well failed room. absurd (well (code_is c _ e))
held number P KeeperFault (Ok c) e h = λ well failed room. absurd (failed (code_is c _ e))
held number P NoMemory (Ok c) e h = λ well failed room. absurd (room (code_is c _ e))
held number P WriteFault (Ok c) e h = absurd e
held number P WriteFault (Err x) e h = λ well failed room. h
held number P _ (Err x) e h = absurd e
held number P _ (Ok c) e h = λ well failed room. h

-- a command fails only where its sink failed
failed_there : (P : Type 0) (r : Result (Option Closing) Failed) → OnErr r P → IsErr r → P
failed_there P (Ok c) f e = absurd (cc e)
failed_there P (Err x) f e = f

-- so its sink's faults are to blame
pub by_sink : (P : Type 0) (r : Result (Option Closing) Failed) (before now : ℕ) (room left : Room) → OnErr r P →
    (P → IsErr r) → FaultsByRoom before now room left P → FaultsByRoom before now room left (IsErr r)
by_sink P r before now room left f told s =
    record {
      later = s.later;
      cause = λ e. s.cause (failed_there P r f e);
      still = λ well. s.still (λ p. well (told p));
      sure = λ endless. (let sure = s.sure endless in ((λ e. sure.0 (failed_there P r f e)), sure.1));
    }

-- and its source's, where no fault of another object is told
pub by_read : (done : Outcome) (r : Result (Option Closing) Failed) (before now : ℕ) (plan : Option (ℕ → Bool)) →
    (r ≡ Ok (Some closings.ReadFault) → done ≡ ReadFault) → (done ≡ ReadFault → r ≡ Ok (Some closings.ReadFault)) →
    (done ≡ WriteFault → IsErr r) → (done ≡ KeeperFault → r ≡ Ok (Some closings.KeeperFault)) →
    FaultsBeside before now plan (done ≡ ReadFault) (NamesNoOther done) →
    FaultsBeside before now plan (r ≡ Ok (Some closings.ReadFault)) (TellsNoOther r)
by_read done r before now plan here read write keeper f =
    record {
      later = f.later;
      cause = λ e. f.cause (here e);
      still = λ well quiet. f.still (λ e. well (read e))
          ((λ e. quiet.0 (write e)), (λ e. quiet.1 (keeper e)));
      sure = λ never e. f.sure never (here e);
    }

-- and its keeper's
pub by_keeper : (P Q : Type 0) (before now : ℕ) (plan : Option (ℕ → Bool)) → (Q → P) → (P → Q) →
    FaultsByPlan before now plan P → FaultsByPlan before now plan Q
by_keeper P Q before now plan here told f =
    record {
      later = f.later;
      cause = λ e. f.cause (here e);
      still = λ well. f.still (λ p. well (told p));
      sure = λ never e. f.sure never (here e);
    }
