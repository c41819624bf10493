-- What a put by the trees makes of a store.
use Rattle.std.specs.Prelude.{Bool, Result, IfOk}
use Rattle.sqlite_trees.specs.declared.error.StoreError.{StoreError}
use Rattle.sqlite_trees.specs.declared.store.Store.{Ghosts}
use Rattle.sqlite_trees.specs.Tree.{Trees}
use Rattle.sqlite_trees.specs.View.{View, IsClean}
use Rattle.keep_office.specs.Office.{Office}
use Rattle.keep_puts.specs.Steps.{IfDone}
use Rattle.keep_puts.specs.Stores.{Stores}
use Rattle.keep_puts.specs.Puts.{Writes}

-- of the office that the trees stand for a put makes the next one, and of the trees, whatever they hold, what it makes
-- of any; where it is done, they were such as it asks for
pub record PutsInto {S : Type 0} (g : Ghosts S) (room : View → Type 0) (asks : Office → Type 0) (next : Office → Office)
    (finds : Trees → Type 0) (makes : Trees → Trees → Type 0) (old new : S) (result : Result Bool StoreError) :
    Type 0 where
  pub stores : Stores g room asks next old new result
  pub found : IsClean (g.view new) → IfOk result (λ done. IfDone done (finds (g.view old).committed))
  pub writes : Writes g makes old new result

-- any trees will do
abbrev pub FindsAny : Trees → Type 0
FindsAny trees = Unit {0}
