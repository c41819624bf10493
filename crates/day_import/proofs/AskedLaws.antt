-- How a keeper was asked, call after call.
use Rattle.std.proofs.Common.{◌≡◌, ◌≢◌, ℕ, ◌+◌, Bool, true, false, Some, None, Result, Ok, Err, is_err, refl}
use Rattle.std.proofs.Common.{ap}
use Rattle.std.proofs.Common.{subst, arith}
use Rattle.keep_office.specs.declared.kept.KeepFault.{KeepFault}
use Rattle.keep_office.specs.declared.kept.KeepFault.TheVariants as keeping
use Rattle.keep_office.specs.Calls.{WhenRefused, PutsNothing, FailsLate, AllOrNothing, has_failed, GoesAsPlanned}
use Rattle.keep_office.specs.Calls.{PutsAsPlanned}
use Rattle.day_floor.specs.Asking.{AskingPlan, PassesCalls, FailsAfter}
use Rattle.day_floor.proofs.AskLaws.{passes_one, passes_on, fails_now, fails_on}
use Rattle.day_import.specs.declared.fault.DayFault.{DayFault}
use Rattle.day_import.specs.declared.fault.DayFault.TheVariants as stop
use Rattle.day_import.specs.AskedRounds.{PassesSome, AsksUntil, is_keepers}
use Rattle.day_import.specs.Asked.{AsksBy}
use Rattle.day_import.specs.Imports.{IsOfNewDay, IsOfAnswers, IsOfKeptDay}
use Rattle.day_import.specs.Runs.{stopped_outcome, refused_outcome}
use Rattle.day_import.specs.declared.outcomes.Outcome.{Outcome}
use Rattle.day_import.specs.declared.outcomes.Outcome.TheVariants.{Stored, Already, Answered, Refused, DayPassed}
use Rattle.day_import.specs.declared.outcomes.Outcome.TheVariants.{Differs, ReadFault, WriteFault, KeeperFault}
use Rattle.day_import.specs.declared.outcomes.Outcome.TheVariants.{NoMemory}

-- so many calls as are equally many
passes_same : (m n : ℕ) (a b : AskingPlan) → m ≡ n → PassesCalls m a b → PassesCalls n a b
passes_same m n a b e h = subst (λ k. PassesCalls k a b) e h

-- one call more came first, of a new day
pub one_before : (n : ℕ) (outcome : Outcome) (a b c : AskingPlan) → IsOfNewDay outcome → PassesCalls 1 a b →
    AsksBy n outcome b c → AsksBy (n + 1) outcome a c
one_before n (Stored kept) a b c new one h = (
  h.0,
  passes_same (1 + (n + (h.0 + 1))) ((n + 1) + (h.0 + 1)) a c (omega arith)
      (passes_on a b c 1 (n + (h.0 + 1)) one h.1),
)
one_before n (Already kept) a b c new one h = absurd new
one_before n (Answered kept) a b c new one h = absurd new
one_before n (Refused line cause) a b c new one h = (
  h.0,
  passes_same (1 + (n + h.0)) ((n + 1) + h.0) a c (omega arith) (passes_on a b c 1 (n + h.0) one h.1),
)
one_before n (DayPassed last) a b c new one h = absurd new
one_before n (Differs kept found) a b c new one h = absurd new
one_before n ReadFault a b c new one h = (1 + h.0, passes_on a b c 1 h.0 one h.1)
one_before n WriteFault a b c new one h = (
  h.0,
  passes_same (1 + (n + h.0)) ((n + 1) + h.0) a c (omega arith) (passes_on a b c 1 (n + h.0) one h.1),
)
one_before n KeeperFault a b c new one h = (1 + h.0, fails_on a b c 1 h.0 one h.1)
one_before n NoMemory a b c new one h = tt

-- the first call of an import told that the day is not kept
pub day_before : (outcome : Outcome) (a b c : AskingPlan) → PassesCalls 1 a b → AsksBy 2 outcome b c →
    AsksBy 3 outcome a c
day_before (Stored kept) a b c one h = one_before 2 (Stored kept) a b c tt one h
day_before (Already kept) a b c one h = passes_on a b c 1 0 one h
day_before (Answered kept) a b c one h = (
  h.0,
  passes_same (1 + (2 + h.0)) (3 + h.0) a c (omega arith) (passes_on a b c 1 (2 + h.0) one h.1),
)
day_before (Refused line cause) a b c one h = one_before 2 (Refused line cause) a b c tt one h
day_before (DayPassed last) a b c one h = passes_on a b c 1 1 one h
day_before (Differs kept found) a b c one h = passes_on a b c 1 0 one h
day_before ReadFault a b c one h = one_before 2 ReadFault a b c tt one h
day_before WriteFault a b c one h = one_before 2 WriteFault a b c tt one h
day_before KeeperFault a b c one h = one_before 2 KeeperFault a b c tt one h
day_before NoMemory a b c one h = tt

-- the tariffs were asked for before a day was answered
pub tariffs_before : (outcome : Outcome) (a b c : AskingPlan) → IsOfAnswers outcome → PassesCalls 1 a b →
    AsksBy 0 outcome b c → AsksBy 1 outcome a c
tariffs_before (Stored kept) a b c own one h = absurd own
tariffs_before (Already kept) a b c own one h = absurd own
tariffs_before (Answered kept) a b c own one h = (
  h.0,
  passes_same (1 + (0 + h.0)) (1 + h.0) a c (omega arith) (passes_on a b c 1 (0 + h.0) one h.1),
)
tariffs_before (Refused line cause) a b c own one h = (
  h.0,
  passes_same (1 + (0 + h.0)) (1 + h.0) a c (omega arith) (passes_on a b c 1 (0 + h.0) one h.1),
)
tariffs_before (DayPassed last) a b c own one h = absurd own
tariffs_before (Differs kept found) a b c own one h = absurd own
tariffs_before ReadFault a b c own one h = (1 + h.0, passes_on a b c 1 h.0 one h.1)
tariffs_before WriteFault a b c own one h = (
  h.0,
  passes_same (1 + (0 + h.0)) (1 + h.0) a c (omega arith) (passes_on a b c 1 (0 + h.0) one h.1),
)
tariffs_before KeeperFault a b c own one h = (1 + h.0, fails_on a b c 1 h.0 one h.1)
tariffs_before NoMemory a b c own one h = tt

-- the work of a day was stopped
pub stopped_asked : (fault : DayFault) (a b : AskingPlan) → AsksUntil (is_keepers fault) a b →
    AsksBy 0 (stopped_outcome fault) a b
stopped_asked stop.ReadFault a b h = h
stopped_asked stop.WriteFault a b h = (h.0, passes_same h.0 (0 + h.0) a b (omega arith) h.1)
stopped_asked stop.KeeperFault a b h = h
stopped_asked stop.NoMemory a b h = tt

-- a day was worked, and stored after that
pub worked_asked : (outcome : Outcome) (a b c : AskingPlan) → IsOfNewDay outcome → PassesSome a b →
    AsksBy 0 outcome b c → AsksBy 0 outcome a c
worked_asked (Stored kept) a b c new some h = (
  some.0 + h.0,
  passes_same (some.0 + (0 + (h.0 + 1))) (0 + ((some.0 + h.0) + 1)) a c (omega arith)
      (passes_on a b c some.0 (0 + (h.0 + 1)) some.1 h.1),
)
worked_asked (Already kept) a b c new some h = absurd new
worked_asked (Answered kept) a b c new some h = absurd new
worked_asked (Refused line cause) a b c new some h = (
  some.0 + h.0,
  passes_same (some.0 + (0 + h.0)) (0 + (some.0 + h.0)) a c (omega arith)
      (passes_on a b c some.0 (0 + h.0) some.1 h.1),
)
worked_asked (DayPassed last) a b c new some h = absurd new
worked_asked (Differs kept found) a b c new some h = absurd new
worked_asked ReadFault a b c new some h = (some.0 + h.0, passes_on a b c some.0 h.0 some.1 h.1)
worked_asked WriteFault a b c new some h = (
  some.0 + h.0,
  passes_same (some.0 + (0 + h.0)) (0 + (some.0 + h.0)) a c (omega arith)
      (passes_on a b c some.0 (0 + h.0) some.1 h.1),
)
worked_asked KeeperFault a b c new some h = (some.0 + h.0, fails_on a b c some.0 h.0 some.1 h.1)
worked_asked NoMemory a b c new some h = tt

-- or answered
pub told_asked : (outcome : Outcome) (a b : AskingPlan) → IsOfAnswers outcome → outcome ≢ KeeperFault →
    PassesSome a b → AsksBy 0 outcome a b
told_asked (Stored kept) a b own other some = absurd own
told_asked (Already kept) a b own other some = absurd own
told_asked (Answered kept) a b own other some = (
  some.0,
  passes_same some.0 (0 + some.0) a b (omega arith) some.1,
)
told_asked (Refused line cause) a b own other some = (
  some.0,
  passes_same some.0 (0 + some.0) a b (omega arith) some.1,
)
told_asked (DayPassed last) a b own other some = absurd own
told_asked (Differs kept found) a b own other some = absurd own
told_asked ReadFault a b own other some = some
told_asked WriteFault a b own other some = (some.0, passes_same some.0 (0 + some.0) a b (omega arith) some.1)
told_asked KeeperFault a b own other some = absurd (other refl)
told_asked NoMemory a b own other some = tt

-- a day that is kept was asked for
pub kept_asked : (outcome : Outcome) (a b : AskingPlan) → IsOfKeptDay outcome → PassesCalls 1 a b → AsksBy 3 outcome a b
kept_asked (Stored kept) a b day one = absurd day
kept_asked (Already kept) a b day one = one
kept_asked (Answered kept) a b day one = absurd day
kept_asked (Refused line cause) a b day one = absurd day
kept_asked (DayPassed last) a b day one = absurd day
kept_asked (Differs kept found) a b day one = one
kept_asked ReadFault a b day one = (1, one)
kept_asked WriteFault a b day one = absurd day
kept_asked KeeperFault a b day one = absurd day
kept_asked NoMemory a b day one = tt

-- a call went well
pub call_passed : {T : Type 0} (a b : AskingPlan) (r : Result T KeepFault) (x : T) → GoesAsPlanned a b r → r ≡ Ok x →
    PassesCalls 1 a b
call_passed a b r x goes ok = passes_one a b r goes (ap has_failed ok)

-- or was refused
pub call_refused : {T : Type 0} (n : ℕ) (a b : AskingPlan) (r : Result T KeepFault) (fault : KeepFault) →
    GoesAsPlanned a b r → r ≡ Err fault → AsksBy n (refused_outcome fault) a b
call_refused n a b r keeping.Failed goes e = (0, fails_now a b r goes (ap has_failed e))
call_refused n a b r keeping.NoMemory goes e = tt

not_true : (b : Bool) → (b ≡ true → ⊥) → b ≡ false
not_true true h = absurd (h refl)
not_true false h = refl

no_error : (r : Result (Unit {0}) KeepFault) (u : Unit {0}) → r ≡ Ok u → is_err r ≡ true → ⊥
no_error r u ok err = let well : is_err r ≡ false = ap is_err ok in cc

-- a put went well
pub put_passed : (w : WhenRefused) (a b : AskingPlan) (r : Result (Unit {0}) KeepFault) (u : Unit {0}) →
    PutsAsPlanned w a b r → r ≡ Ok u → PassesCalls 1 a b
put_passed PutsNothing a b r u goes ok = passes_one a b r goes (ap has_failed ok)
put_passed FailsLate None b r u goes ok = tt
put_passed FailsLate (Some p) None r u goes ok = absurd goes
put_passed FailsLate (Some p) (Some q) r u goes ok = (
  λ i le. subst (λ n. p n ≡ false) (let zero : 0 ≡ i = omega (arith, le) in zero)
      (not_true (p 0) (λ t. no_error r u ok (goes.1 t))),
  goes.2,
)
put_passed AllOrNothing a b r u goes ok = passes_one a b r goes (ap has_failed ok)

-- or failed
put_failed : (w : WhenRefused) (a b : AskingPlan) (r : Result (Unit {0}) KeepFault) → PutsAsPlanned w a b r →
    has_failed r ≡ true → FailsAfter 0 a b
put_failed PutsNothing a b r goes e = fails_now a b r goes e
put_failed FailsLate None b r goes e = tt
put_failed FailsLate (Some p) None r goes e = absurd goes
put_failed FailsLate (Some p) (Some q) r goes e =
    (λ i le. (let no : ⊥ = omega (arith, le) in absurd no), goes.0 e, goes.2)
put_failed AllOrNothing a b r goes e = fails_now a b r goes e

-- or was refused
pub put_refused : (w : WhenRefused) (a b : AskingPlan) (r : Result (Unit {0}) KeepFault) (fault : KeepFault) →
    PutsAsPlanned w a b r → r ≡ Err fault → AsksBy 0 (refused_outcome fault) a b
put_refused w a b r keeping.Failed goes e = (0, put_failed w a b r goes (ap has_failed e))
put_refused w a b r keeping.NoMemory goes e = tt
