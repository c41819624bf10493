-- What a put makes of a store.
use Rattle.std.specs.Prelude.{◌≡◌, ◌⊎◌, Bool, true, false, Result, Ok, Err, IfOk, IfErr, IsTrue}
use Rattle.sqlite_trees.specs.declared.error.StoreError.{StoreError}
use Rattle.sqlite_trees.specs.declared.store.Store.{Ghosts}
use Rattle.sqlite_trees.specs.Tree.{Trees}
use Rattle.sqlite_trees.specs.View.{View, IsClean}
use Rattle.keep_office.specs.Office.{Office}
use Rattle.keep_puts.specs.Trees.{StandFor}
use Rattle.keep_puts.specs.Steps.{IfDone}
use Rattle.keep_puts.specs.Room.{IsDoneIf}
use Rattle.keep_puts.specs.Causes.{PutCause}

-- a put was not done: it does not fit what is there, or failed
abbrev pub IsNotDone : Result Bool StoreError → Type 0
IsNotDone (Ok true) = ⊥
IsNotDone (Ok false) = Unit {0}
IsNotDone (Err e) = Unit {0}

-- what is committed stays while the store is open, which it was
pub record StaysCommitted (old new : View) : Type 0 where
  pub was_open : IsTrue new.is_open → IsTrue old.is_open
  pub committed : IsTrue new.is_open → new.committed ≡ old.committed

-- trees stand for the office that comes next, if others stood for one that the put asks for
abbrev pub Makes : (Office → Type 0) → (Office → Office) → Trees → Trees → Type 0
Makes asks next old new = (o : Office) → StandFor old o → asks o → StandFor new (next o)

-- a put commits the trees of the office that comes next; where it was not done nothing was committed; it is done where
-- the store has room for it, or has failed for a cause; a crash finds what it found before, or those trees
pub record Stores {S : Type 0} (g : Ghosts S) (room : View → Type 0) (asks : Office → Type 0) (next : Office → Office)
    (old new : S) (result : Result Bool StoreError) : Type 0 where
  pub makes : IsClean (g.view new) → IfOk result (λ done. IfDone done
      (Makes asks next (g.view old).committed (g.view new).committed))
  pub stays : IsClean (g.view new) → IsNotDone result → StaysCommitted (g.view old) (g.view new)
  pub done : IsClean (g.view new) → IfOk result (IsDoneIf (room (g.view old)))
  pub because : IsClean (g.view new) → IfErr result (PutCause g old new)
  pub crash : (db : Trees) → g.recovers new db → Makes asks next (g.view old).committed db ⊎ g.recovers old db
