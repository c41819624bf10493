-- How a keeper was asked, call after call.
use Rattle.std.proofs.Common.{◌≡◌, ℕ, ◌+◌, Bool, true, false, Some, None, Result, Ok, Err, is_err, refl}
use Rattle.std.proofs.Common.{ap, ◌∙◌, subst, arith}
use Rattle.keep_office.specs.declared.kept.KeepFault.{KeepFault}
use Rattle.keep_office.specs.declared.kept.KeepFault.TheVariants as keeping
use Rattle.keep_office.specs.Calls.{WhenRefused, PutsNothing, FailsLate, AllOrNothing, has_failed, GoesAsPlanned}
use Rattle.keep_office.specs.Calls.{PutsAsPlanned}
use Rattle.day_floor.specs.Asking.{AskingPlan, PassesCalls, FailsAfter}
use Rattle.day_floor.proofs.AskLaws.{passes_none, passes_one, passes_on, fails_now, fails_on}
use Rattle.day_past.specs.Asked.{FailsFirst, AsksNewPast, AsksPast, IsOfKeptPast}
use Rattle.day_past.specs.Imports.{past_refused}
use Rattle.day_past.specs.declared.outcomes.PastOutcome.{PastOutcome}
use Rattle.day_past.specs.declared.outcomes.PastOutcome.TheVariants.{Stored, Already, Row, PastLate, OtherBase}
use Rattle.day_past.specs.declared.outcomes.PastOutcome.TheVariants.{Differs, ReadFault, KeeperFault, NoMemory}

-- no call was made
pub unasked : (p : AskingPlan) → PassesCalls 0 p p
unasked p = passes_none p

-- a call went well
pub call_passed : {T : Type 0} (a b : AskingPlan) (r : Result T KeepFault) (x : T) → GoesAsPlanned a b r → r ≡ Ok x →
    PassesCalls 1 a b
call_passed a b r x goes ok = passes_one a b r goes (ap has_failed ok)

-- or was refused
pub call_refused : {T : Type 0} (n : ℕ) (a b : AskingPlan) (r : Result T KeepFault) (fault : KeepFault) →
    GoesAsPlanned a b r → r ≡ Err fault → AsksNewPast n (past_refused fault) a b
call_refused n a b r keeping.Failed goes e = (0, omega arith, fails_now a b r goes (ap has_failed e))
call_refused n a b r keeping.NoMemory goes e = tt

not_true : (b : Bool) → (b ≡ true → ⊥) → b ≡ false
not_true true h = absurd (h refl)
not_true false h = refl

no_error : (r : Result (Unit {0}) KeepFault) (u : Unit {0}) → r ≡ Ok u → is_err r ≡ true → ⊥
no_error r u ok err = let well : is_err r ≡ false = ap is_err ok in cc

-- a put went well
pub put_passed : (w : WhenRefused) (a b : AskingPlan) (r : Result (Unit {0}) KeepFault) (u : Unit {0}) →
    PutsAsPlanned w a b r → r ≡ Ok u → PassesCalls 1 a b
put_passed PutsNothing a b r u goes ok = passes_one a b r goes (ap has_failed ok)
put_passed FailsLate None b r u goes ok = tt
put_passed FailsLate (Some p) None r u goes ok = absurd goes
put_passed FailsLate (Some p) (Some q) r u goes ok = (
  λ i le. subst (λ n. p n ≡ false) (let zero : 0 ≡ i = omega (arith, le) in zero)
      (not_true (p 0) (λ t. no_error r u ok (goes.1 t))),
  goes.2,
)
put_passed AllOrNothing a b r u goes ok = passes_one a b r goes (ap has_failed ok)

-- or failed
put_failed : (w : WhenRefused) (a b : AskingPlan) (r : Result (Unit {0}) KeepFault) → PutsAsPlanned w a b r →
    has_failed r ≡ true → FailsAfter 0 a b
put_failed PutsNothing a b r goes e = fails_now a b r goes e
put_failed FailsLate None b r goes e = tt
put_failed FailsLate (Some p) None r goes e = absurd goes
put_failed FailsLate (Some p) (Some q) r goes e =
    (λ i le. (let no : ⊥ = omega (arith, le) in absurd no), goes.0 e, goes.2)
put_failed AllOrNothing a b r goes e = fails_now a b r goes e

-- or was refused
pub put_refused : (w : WhenRefused) (a b : AskingPlan) (r : Result (Unit {0}) KeepFault) (fault : KeepFault) →
    PutsAsPlanned w a b r → r ≡ Err fault → AsksNewPast 0 (past_refused fault) a b
put_refused w a b r keeping.Failed goes e = (0, omega arith, put_failed w a b r goes (ap has_failed e))
put_refused w a b r keeping.NoMemory goes e = tt

-- one call more came first
pub one_before : (n : ℕ) (outcome : PastOutcome) (a b c : AskingPlan) → PassesCalls 1 a b →
    AsksNewPast n outcome b c → AsksNewPast (1 + n) outcome a c
one_before n (Stored kept) a b c one h =
    let same : 1 + (n + 1) ≡ (1 + n) + 1 = omega arith in
    subst (λ m. PassesCalls m a c) same (passes_on a b c 1 (n + 1) one h)
one_before n (Already kept) a b c one h = absurd h
one_before n (Row line cause) a b c one h = passes_on a b c 1 n one h
one_before n (PastLate last) a b c one h = passes_on a b c 1 n one h
one_before n (OtherBase kept) a b c one h = absurd h
one_before n (Differs kept found) a b c one h = absurd h
one_before n ReadFault a b c one h = passes_on a b c 1 n one h
one_before n KeeperFault a b c one h = (let few = h.1 in (1 + h.0, omega (arith, few), fails_on a b c 1 h.0 one h.2))
one_before n NoMemory a b c one h = tt

-- in all, where no history is kept
pub new_asked : (outcome : PastOutcome) (a b : AskingPlan) → AsksNewPast 2 outcome a b → AsksPast outcome a b
new_asked (Stored kept) a b h = h
new_asked (Already kept) a b h = absurd h
new_asked (Row line cause) a b h = h
new_asked (PastLate last) a b h = h
new_asked (OtherBase kept) a b h = absurd h
new_asked (Differs kept found) a b h = absurd h
new_asked ReadFault a b h = (2, omega arith, omega arith, h)
new_asked KeeperFault a b h = h
new_asked NoMemory a b h = tt

-- and where one is
pub kept_asked : (outcome : PastOutcome) (a b : AskingPlan) → IsOfKeptPast outcome → PassesCalls 1 a b →
    AsksPast outcome a b
kept_asked (Stored kept) a b own one = absurd own
kept_asked (Already kept) a b own one = one
kept_asked (Row line cause) a b own one = absurd own
kept_asked (PastLate last) a b own one = absurd own
kept_asked (OtherBase kept) a b own one = one
kept_asked (Differs kept found) a b own one = one
kept_asked ReadFault a b own one = (1, omega arith, omega arith, one)
kept_asked KeeperFault a b own one = absurd own
kept_asked NoMemory a b own one = tt

-- what has failed is that
is_failed : {T : Type 0} (r : Result T KeepFault) → has_failed r ≡ true → r ≡ Err keeping.Failed
is_failed (Ok x) e = let bad : ⊥ = cc in absurd bad
is_failed (Err keeping.Failed) e = refl
is_failed (Err keeping.NoMemory) e = let bad : ⊥ = cc in absurd bad

-- a call that is planned to fail does
fails_next : {T : Type 0} (before after : AskingPlan) (r : Result T KeepFault) → GoesAsPlanned before after r →
    FailsFirst before → r ≡ Err keeping.Failed
fails_next None after r goes fails = absurd fails
fails_next (Some p) None r goes fails = absurd goes
fails_next (Some p) (Some q) r goes fails = is_failed r (goes.0 ∙ fails)

one_fault : {T : Type 0} (r : Result T KeepFault) (a b : KeepFault) → r ≡ Err a → r ≡ Err b → a ≡ b
one_fault r a b here there = cc

-- and the import ends by it
pub fails_outcome : {T : Type 0} (before after : AskingPlan) (r : Result T KeepFault) (fault : KeepFault)
    (outcome : PastOutcome) → GoesAsPlanned before after r → FailsFirst before → r ≡ Err fault →
    outcome ≡ past_refused fault → outcome ≡ KeeperFault
fails_outcome before after r fault outcome goes fails here is =
    is ∙ ap past_refused (one_fault r fault keeping.Failed here (fails_next before after r goes fails))

-- and in no other way
pub fails_only : {T P : Type 0} (before after : AskingPlan) (r : Result T KeepFault) (x : T) →
    GoesAsPlanned before after r → FailsFirst before → r ≡ Ok x → P
fails_only before after r x goes fails ok =
    let failed = fails_next before after r goes fails in let no : ⊥ = cc in absurd no
