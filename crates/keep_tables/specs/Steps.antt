-- What a step of a transaction leaves, and which office is committed.
use Rattle.std.specs.Prelude.{◌≡◌, ℕ, List, ◌++◌, IsTrue, Result, Ok, Err}
use Rattle.road_time.specs.declared.day.SpentRow.{SpentRow}
use Rattle.keep_tables.specs.Layout.{all_tables, spent_table, spent_key}
use Rattle.sqlite.specs.declared.error.Error.{Error}
use Rattle.sqlite_trees.specs.Tree.{Trees}
use Rattle.sqlite.specs.Effect.{Database}
use Rattle.sqlite.specs.State.{State, KeepsCommit, Shows}
use Rattle.keep_office.specs.Office.{Office}
use Rattle.keep_tables.specs.Stands.{HasOffice, AreAmountRows}

-- a step of a transaction goes on in it, and one that is refused commits nothing
abbrev pub StaysInside : State → State → Result (Unit {0}) Error → Type 0
StaysInside old new (Ok u) = Shows old new new.now old.committed old.in_transaction
StaysInside old new (Err e) = KeepsCommit old new

-- trees of a database that stands for an office
abbrev pub IsTreesOf : Office → Trees → Type 0
IsTreesOf o trees = (db : Database) × HasOffice db o × (trees ≡ db.trees)

-- what is committed stands for the office that comes next, whatever fitting office a database stood for
abbrev pub CommitsFor : (Office → Type 0) → (Office → Office) → Database → Trees → Type 0
CommitsFor fits next before trees = (o : Office) → HasOffice before o → fits o → IsTreesOf (next o) trees

-- a connection is open, and what is committed stands for the office that comes next
abbrev pub CommitsNow : (Office → Type 0) → (Office → Office) → State → Trees → Type 0
CommitsNow fits next s trees = IsTrue s.is_open × CommitsFor fits next s.now trees

-- any office fits
abbrev pub FitsAny : Office → Type 0
FitsAny o = Unit {0}

-- tables with more amounts, all else as it was
pub record AddsAmounts (old new : Database) (more : List SpentRow) : Type 0 where
  pub schema : new.schema ≡ all_tables
  pub rows : (kept : List SpentRow) → AreAmountRows kept (old.trees spent_table.tree) →
      AreAmountRows (kept ++ more) (new.trees spent_table.tree)
  pub others : (tree : ℕ) → (tree ≡ spent_table.tree → ⊥) → (spent_key.tree ≡ tree → ⊥) → new.trees tree ≡
      old.trees tree
