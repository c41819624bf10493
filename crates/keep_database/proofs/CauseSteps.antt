-- What a failure of the second of two steps says of both.
use Rattle.std.proofs.Common.{ℕ, ◌≡◌, ◌≢◌, ◌⊎◌, refl, inl, inr, List, Option, Some, None, Err, Ok, Result}
use Rattle.std.proofs.Common.{IfErr, OnErr, IsErrAnd}
use Rattle.sqlite_trees.specs.declared.store.Store.{Ghosts}
use Rattle.sqlite.specs.declared.error.Error.{Error}
use Rattle.sqlite.specs.Held.{Held, state}
use Rattle.sqlite.specs.State.{KeepsCommit, Survives}
use Rattle.keep_office.specs.declared.kept.KeepFault.{KeepFault}
use Rattle.keep_office.specs.declared.kept.KeepFault.TheVariants.{Failed, NoMemory}
use Rattle.sqlite_value.specs.Order.{Row}
use Rattle.keep_writes.specs.Causes.{WasRefusedIn, HasCauseOf, HasCause, LackedMemory, IsTold}
use Rattle.keep_writes.proofs.CauseLaws.{refused_after, err_handed}
use Rattle.keep_database.specs.Gives.{WantsMemory}

module _ {S : Type 0} (g : Ghosts S) (old mid new : Held S) (kept : KeepsCommit (state g old) (state g mid))
    (survives : Survives (state g old) (state g mid) (λ _. ⊥)) where
  -- a failure of the second is one of both
  pub failure_after : WasRefusedIn g mid new → WasRefusedIn g old new
  failure_after h = record {
    error = h.error;
    cause = h.cause;
    refused = refused_after g old mid new h.error kept survives h.refused;
  }

  -- so is its want of memory
  pub memory_after : LackedMemory g mid new → LackedMemory g old new
  memory_after h = refused_after g old mid new _ kept survives h

  -- or there was something to take up
  pub wants_after : (there : Type 0) → WantsMemory g mid new there → WantsMemory g old new there
  wants_after there (inl h) = inl (memory_after h)
  wants_after there (inr h) = inr h

  -- so is each fault's cause, whatever the call writes
  pub cause_after : (W : List (List ℕ × Row)) (f : KeepFault) → HasCauseOf g W mid new f → HasCauseOf g W old new f
  cause_after W Failed h = record {
    error = h.error;
    cause = h.cause;
    refused = refused_after g old mid new h.error kept survives h.refused;
  }
  cause_after W NoMemory h = refused_after g old mid new _ kept survives h

  -- and each error's
  pub causes_after : {T : Type 0} (W : List (List ℕ × Row)) (r : Result T KeepFault) →
      IfErr r (HasCauseOf g W mid new) → IfErr r (HasCauseOf g W old new)
  causes_after W (Ok x) h = h
  causes_after W (Err f) h = cause_after W f h

-- what holds anyway holds of an error
pub on_err : {T E : Type 0} (r : Result T E) (P : Type 0) → P → OnErr r P
on_err (Ok x) P p = tt
on_err (Err e) P p = p

-- what follows of what holds where a call went wrong
pub on_else : {T E : Type 0} (r : Result T E) (P Q : Type 0) → OnErr r P → (P → Q) → OnErr r Q
on_else (Ok x) P Q p f = tt
on_else (Err e) P Q p f = f p

-- a refusal that is not for want of memory is a failure, and what follows of it holds
pub failed_else : {T : Type 0} (r : Result T KeepFault) (R : KeepFault → Type 0) (P Q : Type 0) →
    r ≢ Err NoMemory → OnErr r P → (P → Q) → IfErr r (λ f. R f ⊎ ((f ≡ Failed) × Q))
failed_else (Ok x) R P Q pure p f = tt
failed_else (Err Failed) R P Q pure p f = inr (refl, f p)
failed_else (Err NoMemory) R P Q pure p f = absurd (pure refl)

-- an error that the second of two steps tells is told of both, with what its fault says of it; or something else holds
pub told_after : {S T : Type 0} (g : Ghosts S) (W : List (List ℕ × Row)) (old mid new : Held S) →
    KeepsCommit (state g old) (state g mid) → Survives (state g old) (state g mid) (λ _. ⊥) → (r : Result T KeepFault)
    (P Q : KeepFault → Type 0) (why : Option Error) → OnErr r (IsTold g W mid new why) → IfErr r Q →
    IfErr r (λ f. P f ⊎ (IsTold g W old new why × Q f))
told_after g W old mid new kept survives (Ok x) P Q why h q = tt
told_after g W old mid new kept survives (Err f) P Q None h q = absurd h
told_after g W old mid new kept survives (Err f) P Q (Some e) h q =
    inr (refused_after g old mid new e kept survives h, q)

module _ {S : Type 0} (g : Ghosts S) (old new : Held S) where
  -- want of memory that has its cause
  pub memory_of : {T : Type 0} (r : Result T KeepFault) → IfErr r (HasCause g old new) → r ≡ Err NoMemory →
      LackedMemory g old new
  memory_of (Ok x) h none = absurd (cc)
  memory_of (Err Failed) h none = absurd (cc)
  memory_of (Err NoMemory) h none = h

  -- so does one that is handed on
  pub memory_handed : {U : Type 0} (r : Result U KeepFault) (f : KeepFault) → IsErrAnd r (λ e. e ≡ f) →
      HasCause g old new f → r ≡ Err NoMemory → LackedMemory g old new
  memory_handed r f same h none = memory_of r (err_handed r f (HasCause g old new) same h) none

  -- want of memory that is handed on is the database's
  pub wants_handed : {U : Type 0} (there : Type 0) (r : Result U KeepFault) (f : KeepFault) → IsErrAnd r (λ e. e ≡ f) →
      HasCause g old new f → r ≡ Err NoMemory → WantsMemory g old new there
  wants_handed there r f same h none = inl (memory_handed r f same h none)

  -- a failure that is told has its cause
  pub failure_is : (f : KeepFault) → HasCause g old new f → f ≡ Failed → WasRefusedIn g old new
  failure_is Failed h is = h
  failure_is NoMemory h is = absurd (cc)
