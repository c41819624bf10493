-- What the texts of a call did within its transaction.
use Rattle.std.specs.Prelude.{◌≡◌, ℕ, List, [], ◌∷◌, Ok, IsTrue}
use Rattle.sqlite_value.specs.Order.{Row}
use Rattle.sqlite_trees.specs.declared.store.Store.{Ghosts}
use Rattle.sqlite_trees.specs.Tree.{Trees}
use Rattle.sqlite.specs.Held.{Held, state}
use Rattle.sqlite.specs.State.{State, ExecutesInside}

-- an open connection shows what another showed
abbrev pub SeesAs : State → State → Type 0
SeesAs old new = IsTrue new.is_open → IsTrue old.is_open × (new.now ≡ old.now)

-- a text of a call ran within a transaction, with its values
pub record RanOne {S : Type 0} (g : Ghosts S) (writes : List ℕ → Row → Type 0) (old new : Held S) : Type 0 where
  pub sql : List ℕ
  pub params : Row
  pub count : ℕ
  pub written : writes sql params
  pub inside : IsTrue (state g old).in_transaction
  pub ran : ExecutesInside 0 sql params (state g old) (state g new) (Ok count)

-- a text is that one, with those values
abbrev pub IsText : List ℕ × Row → List ℕ → Row → Type 0
IsText text sql params = (sql ≡ text.0) × (params ≡ text.1)

-- each of these texts ran once with its values, in this order, and nothing else was changed
abbrev pub RanAll : {S : Type 0} → Ghosts S → List (List ℕ × Row) → Held S → Held S → Type 0
RanAll g [] old new = SeesAs (state g old) (state g new)
RanAll {S} g (text ∷ texts) old new =
    (mid : Held S) × (last : Held S) × SeesAs (state g old) (state g mid) × RanOne g (IsText text) mid last
    × RanAll g texts last new

-- an open connection shows what another had committed
abbrev pub SeesCommit : State → State → Type 0
SeesCommit old start = IsTrue start.is_open → IsTrue old.is_open × (start.now ≡ old.committed)

-- all of these texts ran on what was committed before
pub record RanOn {S : Type 0} (g : Ghosts S) (texts : List (List ℕ × Row)) (old before : Held S) : Type 0 where
  pub start : Held S
  pub found : SeesCommit (state g old) (state g start)
  pub ran : RanAll g texts start before

-- what is committed is what all of these texts, in their order, made of what was committed before
pub record CommitsRun {S : Type 0} (g : Ghosts S) (texts : List (List ℕ × Row)) (old new : Held S) : Type 0 where
  pub last : Held S
  pub ran : RanOn g texts old last
  pub committed : (state g new).committed ≡ (state g last).now

-- trees are those that all of these texts made of what a connection shows
abbrev pub LeavesNow : {S : Type 0} → Ghosts S → List (List ℕ × Row) → Held S → Trees → Type 0
LeavesNow {S} g texts old trees = (last : Held S) × RanAll g texts old last × (trees ≡ (state g last).now.trees)

-- trees are those that all of these texts, in their order, made of what was committed before
pub record LeavesRun {S : Type 0} (g : Ghosts S) (texts : List (List ℕ × Row)) (old : Held S) (trees : Trees) :
    Type 0 where
  pub last : Held S
  pub ran : RanOn g texts old last
  pub is : trees ≡ (state g last).now.trees
