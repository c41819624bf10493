-- Why a call of a keeper failed.
use Rattle.std.specs.Prelude.{◌≡◌, ◌≢◌, ◌⊎◌, ℕ, List, [], ◌∷◌, ◌++◌, length, Option, Some, None, slice_get, Err}
use Rattle.std.specs.Prelude.{IsTrue}
use Rattle.sqlite_value.specs.Order.{Row}
use Rattle.sqlite_trees.specs.declared.store.Store.{Ghosts}
use Rattle.sqlite.specs.declared.error.Error.{Error}
use Rattle.sqlite.specs.declared.error.Error.TheVariants.{SqliteFailure}
use Rattle.sqlite.specs.declared.error.ErrorCode.TheVariants.{OutOfMemory}
use Rattle.sqlite.specs.State.{State, Executes, ExecutesInside, FailsToQuery, KeepsCommit, Survives}
use Rattle.sqlite.specs.Steps.{FailsToCommit}
use Rattle.sqlite.specs.Held.{Held, state}
use Rattle.sqlite.specs.Effect.{Database}
use Rattle.keep_office.specs.declared.kept.KeepFault.{KeepFault}
use Rattle.keep_office.specs.declared.kept.KeepFault.TheVariants.{Failed, NoMemory}
use Rattle.keep_office.specs.Office.{Office}
use Rattle.keep_tables.specs.Stands.{HasOffice}
use Rattle.keep_tables.specs.Texts.{undo, find_version, find_last, find_past, find_day, find_seal, find_spent}
use Rattle.keep_tables.specs.Texts.{list_spent, list_vehicle, find_tariffs, put_day, put_seal, put_spent, put_past}
use Rattle.keep_tables.specs.Texts.{drop_tariff, put_tariff}
use Rattle.keep_writes.specs.Runs.{RanAll, RanOn}

-- all that a keeper asks of its tables
abbrev pub asked_texts : List (List ℕ)
asked_texts =
    find_version ∷ find_last ∷ find_past ∷ find_day ∷ find_seal ∷ find_spent ∷ list_spent ∷ list_vehicle ∷
    find_tariffs ∷ []

-- how many values each of these is given
abbrev pub asked_counts : List ℕ
asked_counts = 0 ∷ 0 ∷ 0 ∷ 1 ∷ 1 ∷ 3 ∷ 2 ∷ 3 ∷ 0 ∷ []

-- all that it writes into them
abbrev pub written_texts : List (List ℕ)
written_texts = put_day ∷ put_seal ∷ put_spent ∷ put_past ∷ drop_tariff ∷ put_tariff ∷ []

-- a text is one of these
abbrev pub IsOneOf : List (List ℕ) → List ℕ → Type 0
IsOneOf texts sql = (at : ℕ) × (slice_get texts at ≡ Some sql)

-- a text is one of a keeper's queries, with as many values as that is given
abbrev pub IsAsked : List ℕ → Row → Type 0
IsAsked sql params =
    (at : ℕ) × (slice_get asked_texts at ≡ Some sql) × (slice_get asked_counts at ≡ Some (length params))

-- a text is a keeper's own
abbrev pub IsKeptText : List ℕ → Type 0
IsKeptText sql = (sql ≡ undo) ⊎ (IsOneOf asked_texts sql ⊎ IsOneOf written_texts sql)

-- what ends a transaction that someone left was refused with this error
abbrev pub RefusesUndo : List ℕ → Row → State → State → Error → Type 0
RefusesUndo sql params before after e =
    (sql ≡ undo) × (params ≡ []) × IsTrue before.in_transaction × Executes sql params before after (Err e)

-- so was a query of what is committed
abbrev pub RefusesQuery : List ℕ → Row → State → State → Error → Type 0
RefusesQuery sql params before after e =
    IsAsked sql params × (IsTrue before.is_open → before.now ≡ before.committed)
    × FailsToQuery sql params before after e

-- a text of a call was refused in a transaction in which those before it had run, and up to it nothing was committed;
-- the call ends with what it left
pub record RefusedInside {S : Type 0} (g : Ghosts S) (texts : List (List ℕ × Row)) (old new : Held S) (error : Error) :
    Type 0 where
  pub done : List (List ℕ × Row)
  pub text : List ℕ × Row
  pub rest : List (List ℕ × Row)
  pub before : Held S
  pub after : Held S
  pub is : texts ≡ done ++ text ∷ rest
  pub is_one : IsOneOf written_texts text.0
  pub inside : IsTrue (state g before).in_transaction
  pub refused : ExecutesInside 0 text.0 text.1 (state g before) (state g after) (Err error)
  pub ran : RanAll g done old before
  pub begun : KeepsCommit (state g old) (state g before)
  pub reached : Survives (state g old) (state g before) (λ _. ⊥)
  pub left : Survives (state g after) (state g new) (λ _. ⊥)

-- a text stands in the list of a call's, and those before it ran, in their order, on what was committed
pub record ComesNext {S : Type 0} (g : Ghosts S) (texts : List (List ℕ × Row)) (text : List ℕ × Row)
    (old before : Held S) : Type 0 where
  pub done : List (List ℕ × Row)
  pub rest : List (List ℕ × Row)
  pub is : texts ≡ done ++ text ∷ rest
  pub ran : RanOn g done old before

-- so was a text that the call writes within a transaction, with its values
abbrev pub RefusesWrite : {S : Type 0} → Ghosts S → List (List ℕ × Row) → List ℕ → Row → Held S → Held S →
    Held S → Error → Type 0
RefusesWrite g texts sql params old before after e =
    IsOneOf written_texts sql × IsTrue (state g before).in_transaction
    × ExecutesInside 0 sql params (state g before) (state g after) (Err e) × ComesNext g texts (sql, params) old before

-- a call writes something
pub record WritesSome (texts : List (List ℕ × Row)) : Type 0 where
  pub text : List ℕ × Row
  pub rest : List (List ℕ × Row)
  pub is : texts ≡ text ∷ rest

-- so was the commit of a transaction of a call that writes, in which all its texts had run on what was committed
abbrev pub RefusesCommit : {S : Type 0} → Ghosts S → List (List ℕ × Row) → Held S → Held S → Held S → Error → Type 0
RefusesCommit g texts old before after e =
    WritesSome texts × IsTrue (state g before).in_transaction × FailsToCommit (state g before) (state g after) e
    × RanOn g texts old before

-- one of them was
abbrev pub RefusesStep : {S : Type 0} → Ghosts S → List (List ℕ × Row) → List ℕ → Row → Held S → Held S →
    Held S → Error → Type 0
RefusesStep g texts sql params old before after e =
    RefusesUndo sql params (state g before) (state g after) e
    ⊎ (RefusesQuery sql params (state g before) (state g after) e
    ⊎ (RefusesWrite g texts sql params old before after e
    ⊎ RefusesCommit g texts old before after e))

-- the database refused a step of a call that writes these texts, each with its values, with this error: up to the step
-- nothing was committed, and the call ends with what the step left
pub record RefusedOf {S : Type 0} (g : Ghosts S) (texts : List (List ℕ × Row)) (old new : Held S) (error : Error) :
    Type 0 where
  pub sql : List ℕ
  pub params : Row
  pub before : Held S
  pub after : Held S
  pub refused : RefusesStep g texts sql params old before after error
  pub begun : KeepsCommit (state g old) (state g before)
  pub reached : Survives (state g old) (state g before) (λ _. ⊥)
  pub left : Survives (state g after) (state g new) (λ _. ⊥)

-- the same of a call that writes nothing
abbrev pub RefusedIn : {S : Type 0} → Ghosts S → Held S → Held S → Error → Type 0
RefusedIn g old new e = RefusedOf g [] old new e

-- an error is told with which the database refused a step of a call
abbrev pub IsTold : {S : Type 0} → Ghosts S → List (List ℕ × Row) → Held S → Held S → Option Error → Type 0
IsTold g texts old new None = ⊥
IsTold g texts old new (Some e) = RefusedOf g texts old new e

-- a step was refused, and not for want of memory
pub record WasRefusedOf {S : Type 0} (g : Ghosts S) (texts : List (List ℕ × Row)) (old new : Held S) : Type 0 where
  pub error : Error
  pub cause : error ≢ SqliteFailure OutOfMemory
  pub refused : RefusedOf g texts old new error

-- the same of a call that writes nothing
abbrev pub WasRefusedIn : {S : Type 0} → Ghosts S → Held S → Held S → Type 0
WasRefusedIn g old new = WasRefusedOf g [] old new

-- the database had no memory for a step of a call
abbrev pub LackedMemoryOf : {S : Type 0} → Ghosts S → List (List ℕ × Row) → Held S → Held S → Type 0
LackedMemoryOf g texts old new = RefusedOf g texts old new (SqliteFailure OutOfMemory)

-- the same of a call that writes nothing
abbrev pub LackedMemory : {S : Type 0} → Ghosts S → Held S → Held S → Type 0
LackedMemory g old new = LackedMemoryOf g [] old new

-- the step of some call was refused, and not for want of memory
pub record WasRefused {S : Type 0} (g : Ghosts S) : Type 0 where
  pub texts : List (List ℕ × Row)
  pub old : Held S
  pub new : Held S
  pub refused : WasRefusedOf g texts old new

-- a fault has its own cause: a failure that a step was refused, want of memory that the database had none
abbrev pub HasCauseOf : {S : Type 0} → Ghosts S → List (List ℕ × Row) → Held S → Held S → KeepFault → Type 0
HasCauseOf g texts old new Failed = WasRefusedOf g texts old new
HasCauseOf g texts old new NoMemory = LackedMemoryOf g texts old new

-- the same of a call that writes nothing
abbrev pub HasCause : {S : Type 0} → Ghosts S → Held S → Held S → KeepFault → Type 0
HasCause g old new fault = HasCauseOf g [] old new fault

-- six tables hold no office
abbrev pub HasNoOffice : Database → Type 0
HasNoOffice db = (o : Office) → ¬ HasOffice db o
