-- A look at what a database lists.
use Rattle.std.proofs.Common.{◌≡◌, ℕ, true, Result, IfOk, IfErr, List, [], codes, refl}
use Rattle.sqlite_value.specs.Order.{Row}
use Rattle.sqlite_trees.specs.declared.store.Store.{Ghosts}
use Rattle.sqlite_tied.specs.Compute.{everything}
use Rattle.sqlite_resolve.specs.Compile.{first}
use Rattle.sqlite.specs.declared.error.Error.{Error}
use Rattle.sqlite.specs.Held.{Held, state}
use Rattle.sqlite.specs.State.{HasCleanDisk, Shown, FailsToQuery, CommitsShowing, Survives}
use Rattle.sqlite.proofs.StateLemmas.{survives_weaker}
use Rattle.keep_tables.specs.Asks.{is_ask_text}
use Rattle.keep_tables.proofs.AskLaws.{asked_keeps, asked_commits_nothing}
use Rattle.keep_files.specs.Origins.{WasAsked}

-- the query for the names of all that a database lists
abbrev list_names : List ℕ
list_names = codes "SELECT name FROM sqlite_schema"

-- the text asks
list_names_asks : is_ask_text (first list_names) ≡ true
unfolding everything
list_names_asks = refl

-- a connection that was asked for them keeps what was committed
pub names_asked : {S X : Type 0} (g : Ghosts S) (rows_in : X → List Row) (old new : Held S) (r : Result X Error)
    → (HasCleanDisk (state g new) → IfOk r (λ x. Shown list_names [] (state g old) (state g new) (rows_in x)))
    → (HasCleanDisk (state g new) → IfErr r (FailsToQuery list_names [] (state g old) (state g new)))
    → Survives (state g old) (state g new) (CommitsShowing list_names [] (state g old)) → WasAsked g old new
names_asked g rows_in old new r ok err survives = record {
  kept = λ clean.
      asked_keeps rows_in list_names [] (state g old) (state g new) r list_names_asks (ok clean) (err clean);
  crash =
      survives_weaker (state g old) (state g new) (CommitsShowing list_names [] (state g old)) (λ _. ⊥)
      (λ _ db. asked_commits_nothing list_names [] (state g old) db list_names_asks) survives;
}
