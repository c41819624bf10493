-- What trees have to be like for a put of them to be done.
use Rattle.std.specs.Prelude.{◌≡◌, ◌<◌, ◌≤◌, ◌-◌, ◌^◌, ◌+ℤ◌, ℕ, ℤ, pos, FitsSigned, Bool, IsTrue, List, []}
use Rattle.std.specs.Prelude.{◌∷◌, ◌++◌, filter, length}
use Rattle.std.specs.Int.{w64}
use Rattle.sqlite_value.specs.declared.value.Value.TheVariants.{Int}
use Rattle.sqlite_value.specs.Order.{Row}
use Rattle.sqlite_trees.specs.Tree.{Trees, rowid, has_rowid}
use Rattle.sqlite_trees.specs.View.{View}
use Rattle.road_time.specs.declared.day.SpentRow.{SpentRow}
use Rattle.keep_office.specs.declared.kept.DayRecord.{DayRecord}
use Rattle.keep_puts.specs.Trees.{AreOurs}
use Rattle.keep_puts.specs.Steps.{MayFollow, IsFreshDay, IsFreshPast}

-- a step is done where this holds
abbrev pub IsDoneIf : Type 0 → Bool → Type 0
IsDoneIf P done = P → IsTrue done

-- no row has a number
abbrev pub IsFree : ℤ → List Row → Type 0
IsFree number rows = filter (has_rowid number) rows ≡ []

-- a number, and so many after it, are numbers of rows
abbrev pub AreNumbers : ℤ → ℕ → Type 0
AreNumbers first count = (i : ℕ) → i ≤ count → FitsSigned w64 (first +ℤ pos i)

-- so many rows more of a table, and one, have numbers above the last
pub record HasNumbers (count : ℕ) (rows : List Row) : Type 0 where
  pub first : AreNumbers (pos 1) count
  pub after : (front : List Row) (last : Row) (n : ℤ) → rows ≡ front ++ last ∷ [] → rowid last ≡ Int n →
      AreNumbers (n +ℤ pos 1) count

-- amounts may follow those that are there, and numbers are left for them
pub record TakesAmounts (rows : List SpentRow) (trees : Trees) : Type 0 where
  pub after : MayFollow (trees 2) rows
  pub numbers : HasNumbers (length rows) (trees 1)

-- a day is fresh, and numbers are left for its amounts
pub record TakesDay (r : DayRecord) (rows : List SpentRow) (trees : Trees) : Type 0 where
  pub fresh : IsFreshDay r rows trees
  pub numbers : HasNumbers (length rows) (trees 1)

-- a history is fresh, and numbers are left for its amounts
pub record TakesPast (rows : List SpentRow) (trees : Trees) : Type 0 where
  pub fresh : IsFreshPast rows trees
  pub numbers : HasNumbers (length rows) (trees 1)

-- a tree has fewer rows than can be counted
abbrev pub HasFew : Trees → ℕ → Type 0
HasFew trees t = length (trees t) < 2 ^ 64 - 1

-- so have all that a new beginning takes away
abbrev pub HaveFew : Trees → Type 0
HaveFew trees = (t : ℕ) → t < 5 → HasFew trees t

-- trees can be emptied, and numbers are there for the amounts of a history
pub record TakesAnew (rows : List SpentRow) (trees : Trees) : Type 0 where
  pub few : HaveFew trees
  pub numbers : AreNumbers (pos 1) (length rows)

-- the trees of a store are ours
pub record RoomForTariff (v : View) : Type 0 where
  pub ours : AreOurs v.committed_shape

-- so they are, and they take a day
pub record RoomForDay (r : DayRecord) (rows : List SpentRow) (v : View) : Type 0 where
  pub ours : AreOurs v.committed_shape
  pub takes : TakesDay r rows v.committed

-- or they take a history
pub record RoomForPast (rows : List SpentRow) (v : View) : Type 0 where
  pub ours : AreOurs v.committed_shape
  pub takes : TakesPast rows v.committed

-- or one with which all begins anew
pub record RoomAnew (rows : List SpentRow) (v : View) : Type 0 where
  pub ours : AreOurs v.committed_shape
  pub takes : TakesAnew rows v.committed
