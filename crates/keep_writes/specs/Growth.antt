-- What is there while the tables of an office are made, and that all of it is committed or nothing.

use Rattle.std.specs.Prelude.{◌≡◌, ◌⊎◌, ℕ, Bool, true, false, List, [], Result, Ok, Err, IsTrue}
use Rattle.std.specs.List.{AllByRecursion}
use Rattle.sqlite_value.specs.Order.{Row}
use Rattle.sqlite_trees.specs.Tree.{Trees}
use Rattle.sqlite_resolve.specs.declared.compiled.Compiled.{Compiled}
use Rattle.sqlite_resolve.specs.declared.error.CompileError.{CompileError}
use Rattle.sqlite.specs.Effect.{Database}
use Rattle.sqlite.specs.Listing.{understood}
use Rattle.sqlite.specs.State.{State, Executes, ExecutesInside}
use Rattle.keep_office.specs.Kept.{seal_of}
use Rattle.keep_office.specs.Office.{Office, IsSound}
use Rattle.keep_tables.specs.Texts.{find_version}
use Rattle.keep_tables.specs.Stands.{HoldsAs, HasOld, HasNothing, FitsFields, StandsForOffice, contents_of}
use Rattle.keep_tables.specs.Steps.{IsTreesOf}
use Rattle.keep_writes.specs.Objects.{Lists, MayBeMade, texts_of}

-- a text without parameters ran
abbrev pub TextRan : List ℕ → State → State → Type 0
TextRan sql old new = (count : ℕ) × Executes sql [] old new (Ok count)

-- a text with its values ran within a transaction
abbrev pub RanInside : List ℕ → Row → State → State → Type 0
RanInside sql params old new = (count : ℕ) × ExecutesInside 0 sql params old new (Ok count)

-- six tables hold an office, but for the seals of its days and the version
pub record IsUnsealed (db : Database) (o : Office) : Type 0 where
  pub tables : HoldsAs [] db (record (contents_of o) { sealed = [] })
  pub seals : AllByRecursion (λ d. d.tariffs ≡ seal_of []) o.days
  pub fits : FitsFields o
  pub sound : IsSound o

-- the tables of version 1 are there, or none
abbrev pub Stood : Bool → Database → Office → Type 0
Stood true db o = HasOld db o
Stood false db o = HasNothing db o

-- a text is understood
abbrev pub IsUnderstood : Result Compiled CompileError → Type 0
IsUnderstood (Ok c) = Unit {0}
IsUnderstood (Err e) = ⊥

-- an answer says whether something holds
abbrev pub SaysIf : Bool → Type 0 → Type 0
SaysIf true P = P
SaysIf false P = ¬ P

-- a connection is open, and nothing is under way in it
pub record IsAtRest (s : State) : Type 0 where
  pub is_open : IsTrue s.is_open
  pub seen : s.now ≡ s.committed
  pub calm : s.in_transaction ≡ false

-- the table of our version is there
abbrev pub HasVersion : Database → Type 0
HasVersion db = IsUnderstood (understood db.schema find_version)

-- six tables are not there
abbrev pub LacksVersion : Database → Type 0
LacksVersion db = ¬ HasVersion db

-- a database is ours: the table of our version is there, or its tables may be made
abbrev pub IsOurs : Database → Type 0
IsOurs db = HasVersion db ⊎ MayBeMade db

-- what is committed stands for the office that stood
abbrev pub CommitsGrown : Bool → State → Trees → Type 0
CommitsGrown is_old s trees = IsTrue s.is_open × ((o : Office) → Stood is_old s.now o → IsTreesOf o trees)

-- the same, where the texts that are listed are those
abbrev pub CommitsListed : Bool → State → Trees → Type 0
CommitsListed is_old s trees = CommitsGrown is_old s trees × Lists s.now (texts_of is_old)

-- what is committed stands for the office that a database without six tables stood for, which was one to be made
abbrev pub CommitsHere : State → Trees → Type 0
CommitsHere s trees = IsTrue s.is_open
    × (LacksVersion s.now → (o : Office) → StandsForOffice s.now o → IsTreesOf o trees) × MayBeMade s.now

-- what is committed stands for the office that the database of an open connection stood for
abbrev pub CommitsOpen : State → Trees → Type 0
CommitsOpen s trees = IsTrue s.is_open × ((o : Office) → StandsForOffice s.now o → IsTreesOf o trees) × MayBeMade s.now

-- what is committed stands for the office that a database stood for, which was one to be made
abbrev pub CommitsSame : Database → Trees → Type 0
CommitsSame before trees = ((o : Office) → StandsForOffice before o → IsTreesOf o trees) × MayBeMade before
