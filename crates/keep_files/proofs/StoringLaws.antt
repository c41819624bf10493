-- What a put by the trees made of a store.
use Rattle.std.proofs.Common.{Bool, true, false, Result, Ok, Err, IfOk}
use Rattle.sqlite_trees.specs.declared.error.StoreError.{StoreError}
use Rattle.sqlite_trees.specs.declared.store.Store.{Ghosts}
use Rattle.sqlite_trees.specs.Tree.{Trees}
use Rattle.sqlite_trees.specs.View.{View}
use Rattle.keep_office.specs.Office.{Office}
use Rattle.keep_puts.specs.Steps.{IfDone}
use Rattle.keep_puts.specs.Stores.{Stores}
use Rattle.keep_puts.specs.Puts.{Writes}
use Rattle.keep_files.specs.Storing.{FindsAny, PutsInto}

-- where any trees will do, they were such
any_found : (result : Result Bool StoreError) (trees : Trees) → IfOk result (λ done. IfDone done (FindsAny trees))
any_found (Ok true) trees = tt
any_found (Ok false) trees = tt
any_found (Err e) trees = tt

-- a put that any trees will do for was made of a store
pub puts_any : {S : Type 0} (g : Ghosts S) (room : View → Type 0) (asks : Office → Type 0) (next : Office → Office)
    (makes : Trees → Trees → Type 0) (old new : S) (result : Result Bool StoreError)
    → Stores g room asks next old new result → Writes g makes old new result
    → PutsInto g room asks next FindsAny makes old new result
puts_any g room asks next makes old new result stores writes = record {
  stores = stores;
  found = λ clean. any_found result (g.view old).committed;
  writes = writes;
}
