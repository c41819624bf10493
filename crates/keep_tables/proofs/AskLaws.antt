-- A query changes nothing, whatever the tables are.
use Rattle.std.proofs.Common.{◌≡◌, inl, inr, ℕ, ◌+◌, Bool, IfOk, IfErr, true, false, cond, List, None, Ok, Err, Result}
use Rattle.std.proofs.Common.{refl, sym, ap}
use Rattle.std.proofs.lemmas.Bool.{cases_Bool}
use Rattle.sqlite_value.specs.Order.{Row}
use Rattle.sqlite_trees.specs.Tree.{Trees}
use Rattle.sqlite_ast.specs.declared.Statement.{Statement}
use Rattle.sqlite_ast.specs.declared.Statement.TheVariants as written
use Rattle.sqlite_syntax.specs.declared.statement.Parsed.{Parsed}
use Rattle.sqlite_schema.specs.declared.schema.Schema.{Schema}
use Rattle.sqlite_schema.specs.declared.command.Command.{Command}
use Rattle.sqlite_resolve.specs.declared.compiled.Compiled.{Compiled}
use Rattle.sqlite_resolve.specs.declared.error.CompileError.{CompileError}
use Rattle.sqlite_resolve.specs.declared.error.CompileError.TheVariants.{NoSuchTable}
use Rattle.sqlite.specs.declared.error.Error.{Error}
use Rattle.sqlite_resolve.specs.Lowering.{Checked, and_then}
use Rattle.sqlite_resolve.specs.Compile.{first, compiled, planned, meaning, returning, command, timed, small}
use Rattle.sqlite_resolve.specs.Compile.{with_command}
use Rattle.sqlite_tied.specs.Compute.{everything}
use Rattle.sqlite.specs.Listing.{understood, reads_listing, listing_schema, if_select, is_select}
use Rattle.sqlite.specs.State.{State, IsUnchanged, KeepsCommit, Shown, CommitsShowing, FailsToQuery}
use Rattle.keep_tables.specs.Asks.{is_ask, is_ask_text}
use Rattle.keep_tables.specs.Texts.{find_spent, find_tariffs, list_spent, list_vehicle, find_last, find_day, find_seal}
use Rattle.keep_tables.specs.Texts.{find_past, list_days, find_version}
use Rattle.keep_tables.proofs.StepLaws.{kept_same, kept_if_unread}

-- a query returns no rows beside its own
shows_nothing : (schema : Schema) (base : ℕ) (s : Statement) → is_ask s ≡ true → returning schema base s ≡ Ok None
unfolding returning
shows_nothing schema base (written.Select s) is = refl
shows_nothing schema base _ is = absurd (cc)

-- what is compiled of it has no RETURNING
quiet_if_asked : (schema : Schema) (text : List ℕ) (p : Parsed) → first text ≡ Ok p → is_ask p.statement ≡ true →
    (c : Compiled) → compiled schema text ≡ Ok c → c.returning ≡ None
unfolding compiled planned meaning
quiet_if_asked schema text p is asked c h =
    let formats = timed schema p.formats p.statement in
    go formats (command schema p.formats (small p.names + small formats) p.statement)
    (rw (is, shows_nothing schema (small p.names + small formats) p.statement asked) at h)
  where
    go : (formats : _) (x : Checked Command) →
        and_then (and_then (and_then x (λ k. Ok (k, None))) (λ found. Ok (formats, found)))
        (λ plan. Ok (with_command p plan)) ≡ Ok c → c.returning ≡ None
    go formats (Ok k) e = let same : with_command p (formats, (k, None)) ≡ c = cc in
        ap (λ (d : Compiled). d.returning) (sym same)
    go formats (Err w) e = absurd (cc)

-- what is picked as a query is what was compiled
picked : (r : Result Compiled CompileError) (c : Compiled) → if_select r ≡ Ok c → r ≡ Ok c
picked (Ok d) c h = go (is_select d.command) refl h
  where
    go : (b : Bool) → is_select d.command ≡ b → cond b (Ok d) (Err NoSuchTable) ≡ Ok c →
        ◌≡◌ {A = Result Compiled CompileError} (Ok d) (Ok c)
    go true is e = e
    go false is e = absurd (cc)
picked (Err w) c h = absurd (cc)

-- a text that asks is parsed as a query
found : (text : List ℕ) → is_ask_text (first text) ≡ true → (p : Parsed) × (first text ≡ Ok p) ×
    (is_ask p.statement ≡ true)
found text h = go (first text) refl h
  where
    go : (r : Result Parsed CompileError) → first text ≡ r → is_ask_text r ≡ true → (p : Parsed) × (first text ≡ Ok p)
        × (is_ask p.statement ≡ true)
    go (Ok p) is e = (p, is, e)
    go (Err w) is e = absurd (cc)

-- what is understood of a text that asks returns no rows beside its own
pub quiet : (schema : Schema) (text : List ℕ) → is_ask_text (first text) ≡ true → (c : Compiled) →
    understood schema text ≡ Ok c → c.returning ≡ None
unfolding understood
quiet schema text asked c h =
    let it = found text asked in
    elim (cases_Bool (reads_listing schema text)) [
      | inl lists ↦ quiet_if_asked listing_schema text it.0 it.1 it.2 c (picked _ c (rw lists at h))
      | inr plain ↦ quiet_if_asked schema text it.0 it.1 it.2 c (rw plain at h)
    ]

-- all is as it was
pub asked_changes_nothing : (text : List ℕ) (params : Row) (old new : State) (rows : List Row) →
    is_ask_text (first text) ≡ true → Shown text params old new rows → IsUnchanged old new
unfolding Shown
asked_changes_nothing text params old new rows asked h =
    let bare = quiet old.now.schema text asked h.0 h.1.is in (rw bare at h.2).3

-- and nothing is committed
pub asked_commits_nothing : (text : List ℕ) (params : Row) (s : State) (db : Trees) → is_ask_text (first text) ≡ true →
    ¬ CommitsShowing text params s db
unfolding CommitsShowing
asked_commits_nothing text params s db asked h =
    let bare = quiet s.now.schema text asked h.0 h.1.is in absurd (let e = rw bare at h.2 in cc)

-- whatever is answered, what was committed stays
pub asked_keeps : {X : Type 0} (rows_in : X → List Row) (text : List ℕ) (params : Row) (old new : State)
    (r : Result X Error) → is_ask_text (first text) ≡ true
    → IfOk r (λ x. Shown text params old new (rows_in x)) → IfErr r (FailsToQuery text params old new) →
    KeepsCommit old new
asked_keeps rows_in text params old new (Ok x) asked ok err =
    kept_same old new (asked_changes_nothing text params old new (rows_in x) asked ok)
asked_keeps rows_in text params old new (Err e) asked ok err = kept_if_unread old new text params e err

-- the query for an amount asks
pub find_spent_asks : is_ask_text (first find_spent) ≡ true
unfolding everything
find_spent_asks = refl

-- the query for the tariffs asks
pub find_tariffs_asks : is_ask_text (first find_tariffs) ≡ true
unfolding everything
find_tariffs_asks = refl

-- the query for amounts asks
pub list_spent_asks : is_ask_text (first list_spent) ≡ true
unfolding everything
list_spent_asks = refl

-- the query for the amounts of a vehicle asks
pub list_vehicle_asks : is_ask_text (first list_vehicle) ≡ true
unfolding everything
list_vehicle_asks = refl

-- the query for the last day asks
pub find_last_asks : is_ask_text (first find_last) ≡ true
unfolding everything
find_last_asks = refl

-- the query for a day asks
pub find_day_asks : is_ask_text (first find_day) ≡ true
unfolding everything
find_day_asks = refl

-- the query for a seal asks
pub find_seal_asks : is_ask_text (first find_seal) ≡ true
unfolding everything
find_seal_asks = refl

-- the query for the history asks
pub find_past_asks : is_ask_text (first find_past) ≡ true
unfolding everything
find_past_asks = refl

-- the query for all days asks
pub list_days_asks : is_ask_text (first list_days) ≡ true
unfolding everything
list_days_asks = refl

-- the query for the version asks
pub find_version_asks : is_ask_text (first find_version) ≡ true
unfolding everything
find_version_asks = refl
