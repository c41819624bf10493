-- Why the tables of an office could not be made.
use Rattle.std.specs.Prelude.{◌≡◌, ◌≢◌, ◌⊎◌, ℕ, pos, Bool, true, false, List, [], ◌∷◌, ◌++◌, map, take}
use Rattle.std.specs.Prelude.{Some, None, Option, slice_get, Err, IsTrue}
use Rattle.std.specs.List.{AllByRecursion}
use Rattle.sqlite_value.specs.declared.value.Value.TheVariants.{Int, Blob}
use Rattle.sqlite_value.specs.Order.{Row, column}
use Rattle.sqlite_trees.specs.Tree.{Trees}
use Rattle.sqlite_trees.specs.declared.store.Store.{Ghosts}
use Rattle.sqlite_resolve.specs.declared.error.CompileError.{CompileError}
use Rattle.sqlite.specs.declared.error.Error.{Error}
use Rattle.sqlite.specs.declared.error.Error.TheVariants.{SqliteFailure, SqlInputError}
use Rattle.sqlite.specs.declared.error.ErrorCode.TheVariants.{OutOfMemory, NotADatabase}
use Rattle.sqlite.specs.Held.{Held, state}
use Rattle.sqlite.specs.Listing.{understood}
use Rattle.sqlite.specs.Reading.{IsReadError}
use Rattle.sqlite.specs.State.{State, Executes, ExecutesInside, FailsToQuery, IsNotRun, KeepsCommit, Shown, Survives}
use Rattle.sqlite.specs.Steps.{FailsToCommit}
use Rattle.road_digest.specs.declared.digest.Digest.{Digest}
use Rattle.keep_office.specs.Kept.{seal_of}
use Rattle.keep_tables.specs.Texts.{undo, find_version, list_days, make_days, make_spent, make_past, make_day_tariffs}
use Rattle.keep_tables.specs.Texts.{make_tariffs, make_form, put_version, put_seal}
use Rattle.keep_writes.specs.Causes.{IsOneOf}
use Rattle.keep_writes.specs.Growth.{IsUnderstood, LacksVersion, SaysIf}
use Rattle.keep_writes.specs.Objects.{list_texts, Lists, texts_of}
use Rattle.keep_writes.specs.Runs.{SeesCommit, RanOne, IsText, RanAll}

-- the texts of the tables of version 1, in their order
abbrev pub old_texts : List (List ℕ × Row)
old_texts = (make_days, []) ∷ (make_spent, []) ∷ (make_past, []) ∷ []

-- those of the tables that version 2 has more
abbrev pub new_texts : List (List ℕ × Row)
new_texts = (make_day_tariffs, []) ∷ (make_tariffs, []) ∷ (make_form, []) ∷ []

-- those of the tables that lack, by whether those of version 1 are there
abbrev pub lacking_texts : Bool → List (List ℕ × Row)
lacking_texts true = new_texts
lacking_texts false = old_texts ++ new_texts

-- an open connection sees what is committed
abbrev pub SeesCommitted : State → Type 0
SeesCommitted s = IsTrue s.is_open → s.now ≡ s.committed

-- the look for a table in what is committed was refused, and not for want of that table
abbrev pub RefusesLook : State → State → Error → Type 0
RefusesLook before after e =
    (sql : List ℕ) × IsOneOf (find_version ∷ list_days ∷ []) sql × IsNotRun before after sql [] e
    × ((fault : CompileError) → e ≢ SqlInputError fault) × SeesCommitted before

-- the query for all that is listed in what is committed was refused
abbrev pub RefusesListing : State → State → Error → Type 0
RefusesListing before after e = SeesCommitted before × FailsToQuery list_texts [] before after e

-- what is committed lists other texts than those of the tables that are there
abbrev pub ListsOthers : State → Error → Type 0
ListsOthers before e =
    IsTrue before.is_open × (is_old : Bool)
    × SaysIf is_old (IsUnderstood (understood before.committed.schema list_days)) × (rows : List Row)
    × Lists before.committed rows × (rows ≢ texts_of is_old) × (e ≡ SqliteFailure NotADatabase)

-- within a transaction one of these texts was refused behind those before it
pub record RefusesEach {S : Type 0} (g : Ghosts S) (texts : List (List ℕ × Row)) (old before after : Held S)
    (error : Error) : Type 0 where
  pub done : List (List ℕ × Row)
  pub text : List ℕ × Row
  pub rest : List (List ℕ × Row)
  pub is : texts ≡ done ++ text ∷ rest
  pub ran : RanAll g done old before
  pub refused : ExecutesInside 0 text.0 text.1 (state g before) (state g after) (Err error)

-- a row has the number of a day
abbrev pub HasNumber : Row → Type 0
HasNumber row = (day : ℕ) × (column row 0 ≡ Int (pos day))

-- the seal of the day in a row
abbrev pub row_seal : Digest → Row → List ℕ × Row
row_seal seal row = (put_seal, column row 0 ∷ Blob seal.bytes ∷ [])

-- each of some days was sealed
pub record SealsEach {S : Type 0} (g : Ghosts S) (seal : Digest) (rows : List Row) (old new : Held S) : Type 0 where
  pub numbered : AllByRecursion HasNumber rows
  pub ran : RanAll g (map (row_seal seal) rows) old new

-- a day has no number, or its seal was refused
abbrev pub RefusesSeal : Digest → Row → State → State → Error → Type 0
RefusesSeal seal row before after e =
    IsReadError 0 (column row 0) e ⊎ ((day : ℕ) × (column row 0 ≡ Int (pos day))
    × ExecutesInside 0 put_seal (Int (pos day) ∷ Blob seal.bytes ∷ []) before after (Err e))

-- that is so of one of some days, of which those before it were sealed
pub record RefusesSeals {S : Type 0} (g : Ghosts S) (seal : Digest) (rows : List Row) (old before after : Held S)
    (error : Error) : Type 0 where
  pub place : ℕ
  pub row : Row
  pub is_one : slice_get rows place ≡ Some row
  pub ran : SealsEach g seal (take place rows) old before
  pub refused : RefusesSeal seal row (state g before) (state g after) error

-- these texts ran, and then all days were shown
pub record ShowsDays {S : Type 0} (g : Ghosts S) (texts : List (List ℕ × Row)) (rows : List Row) (old listed : Held S) :
    Type 0 where
  pub made : Held S
  pub ran : RanAll g texts old made
  pub shown : Shown list_days [] (state g made) (state g listed) rows

-- then all of these days were sealed
pub record SealsDays {S : Type 0} (g : Ghosts S) (texts : List (List ℕ × Row)) (old new : Held S) : Type 0 where
  pub rows : List Row
  pub listed : Held S
  pub shows : ShowsDays g texts rows old listed
  pub ran : SealsEach g (seal_of []) rows listed new

-- then version 2 was put
pub record MakesTables {S : Type 0} (g : Ghosts S) (texts : List (List ℕ × Row)) (old new : Held S) : Type 0 where
  pub last : Held S
  pub seals : SealsDays g texts old last
  pub ran : RanOne g (IsText (put_version, [])) last new

-- what is committed is what the whole making, in a transaction that began on what was committed before, made of that,
-- which listed exactly the tables that were there
pub record CommitsTables {S : Type 0} (g : Ghosts S) (old new : Held S) : Type 0 where
  pub is_old : Bool
  pub start : Held S
  pub last : Held S
  pub found : SeesCommit (state g old) (state g start)
  pub says : SaysIf is_old (IsUnderstood (understood (state g start).now.schema list_days))
  pub lists : Lists (state g start).now (texts_of is_old)
  pub makes : MakesTables g (lacking_texts is_old) start last
  pub committed : (state g new).committed ≡ (state g last).now

-- trees are those that the making of the tables that lack made of what a connection shows
abbrev pub LeavesGrown : {S : Type 0} → Ghosts S → Bool → Held S → Trees → Type 0
LeavesGrown {S} g is_old old trees =
    (last : Held S) × MakesTables g (lacking_texts is_old) old last × (trees ≡ (state g last).now.trees)

-- the same, where it lists exactly the tables that are there
abbrev pub LeavesListed : {S : Type 0} → Ghosts S → Bool → Held S → Trees → Type 0
LeavesListed g is_old old trees = LeavesGrown g is_old old trees × Lists (state g old).now (texts_of is_old)

-- the same, where it was seen which tables are there
abbrev pub LeavesHere : {S : Type 0} → Ghosts S → Held S → Trees → Type 0
LeavesHere g old trees =
    (is_old : Bool) × SaysIf is_old (IsUnderstood (understood (state g old).now.schema list_days))
    × LeavesListed g is_old old trees

-- the same, where the table of our version is not
abbrev pub LeavesOpen : {S : Type 0} → Ghosts S → Held S → Trees → Type 0
LeavesOpen g old trees = LacksVersion (state g old).now × LeavesHere g old trees

-- trees are those that the whole making, in a transaction that began on what was committed before, made of that, which
-- had no table of our version and listed exactly the tables that were there
pub record LeavesTables {S : Type 0} (g : Ghosts S) (old : Held S) (trees : Trees) : Type 0 where
  pub is_old : Bool
  pub start : Held S
  pub last : Held S
  pub found : SeesCommit (state g old) (state g start)
  pub lacks : LacksVersion (state g start).now
  pub says : SaysIf is_old (IsUnderstood (understood (state g start).now.schema list_days))
  pub lists : Lists (state g start).now (texts_of is_old)
  pub makes : MakesTables g (lacking_texts is_old) start last
  pub is : trees ≡ (state g last).now.trees

-- behind these texts the seals failed: one of the days that were shown has no number, or its seal was refused
pub record FailsToSeal {S : Type 0} (g : Ghosts S) (texts : List (List ℕ × Row)) (old before after : Held S)
    (error : Error) : Type 0 where
  pub rows : List Row
  pub listed : Held S
  pub shows : ShowsDays g texts rows old listed
  pub refused : RefusesSeals g (seal_of []) rows listed before after error

-- one of these texts was refused; or behind all of them there was no memory for a seal, all days were not shown, or the
-- seals failed; or behind the seals version 2 was refused
abbrev pub EndsTables : {S : Type 0} → Ghosts S → List (List ℕ × Row) → Held S → Held S → Held S → Error → Type 0
EndsTables g texts old before after e =
    RefusesEach g texts old before after e
    ⊎ ((RanAll g texts old before
    × ((e ≡ SqliteFailure OutOfMemory) ⊎ FailsToQuery list_days [] (state g before) (state g after) e))
    ⊎ (FailsToSeal g texts old before after e
    ⊎ (SealsDays g texts old before × ExecutesInside 0 put_version [] (state g before) (state g after) (Err e))))

-- within a transaction a step of a call was refused: up to it nothing was committed; the call ends with what it left
pub record EndsInside {S : Type 0} (g : Ghosts S) (refuses : Held S → Held S → Held S → Error → Type 0)
    (old new : Held S) (error : Error) : Type 0 where
  pub before : Held S
  pub after : Held S
  pub inside : IsTrue (state g before).in_transaction
  pub refused : refuses old before after error
  pub begun : KeepsCommit (state g old) (state g before)
  pub reached : Survives (state g old) (state g before) (λ _. ⊥)
  pub left : Survives (state g after) (state g new) (λ _. ⊥)

-- so was a step of the making, or its commit, in a transaction that began on what was committed, which lists exactly
-- the tables that are there
pub record RefusesInside {S : Type 0} (g : Ghosts S) (old before after : Held S) (error : Error) : Type 0 where
  pub is_old : Bool
  pub start : Held S
  pub found : SeesCommit (state g old) (state g start)
  pub says : SaysIf is_old (IsUnderstood (understood (state g start).now.schema list_days))
  pub lists : Lists (state g start).now (texts_of is_old)
  pub inside : IsTrue (state g before).in_transaction
  pub refused : EndsTables g (lacking_texts is_old) start before after error
      ⊎ (MakesTables g (lacking_texts is_old) start before
      × FailsToCommit (state g before) (state g after) error)

-- a step of the making of tables was refused, or found what is not ours, or no memory
abbrev pub RefusesMaking : {S : Type 0} → Ghosts S → Held S → Held S → Held S → Error → Type 0
RefusesMaking g old before after e =
    (IsTrue (state g before).in_transaction × Executes undo [] (state g before) (state g after) (Err e))
    ⊎ (RefusesLook (state g before) (state g after) e ⊎ (RefusesListing (state g before) (state g after) e
    ⊎ (ListsOthers (state g before) e ⊎ RefusesInside g old before after e)))

-- tables were not made for an error of a step: up to it nothing was committed, and the call ends with what it left
pub record IsUnmade {S : Type 0} (g : Ghosts S) (old new : Held S) (error : Error) : Type 0 where
  pub before : Held S
  pub after : Held S
  pub refused : RefusesMaking g old before after error
  pub begun : KeepsCommit (state g old) (state g before)
  pub reached : Survives (state g old) (state g before) (λ _. ⊥)
  pub left : Survives (state g after) (state g new) (λ _. ⊥)

-- the same of an error that is told, if any
abbrev pub IsUnmadeBy : {S : Type 0} → Ghosts S → Held S → Held S → Option Error → Type 0
IsUnmadeBy g old new None = Unit {0}
IsUnmadeBy g old new (Some e) = IsUnmade g old new e
