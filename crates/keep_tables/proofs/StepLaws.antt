-- What steps leave of a connection, whatever its database is.
use Rattle.std.proofs.Common.{◌≡◌, inl, inr, ℕ, false, List, [], None, Some, Ok, Err, refl, sym, ap, subst, ◌∙◌}
use Rattle.sqlite_value.specs.Order.{Row}
use Rattle.sqlite_trees.specs.Tree.{Trees}
use Rattle.sqlite_schema.specs.declared.schema.Schema.{Schema}
use Rattle.sqlite_schema.specs.declared.command.Command.TheVariants.{Rollback}
use Rattle.sqlite_resolve.specs.declared.compiled.Compiled.{Compiled}
use Rattle.sqlite_tied.specs.Compute.{everything}
use Rattle.std.proofs.lemmas.Bool.{cases_Bool}
use Rattle.sqlite.specs.declared.error.Error.{Error}
use Rattle.sqlite.specs.Listing.{understood}
use Rattle.sqlite.specs.State.{State, KeepsCommit, IsUnchanged, IsRolledBack, Fails, RunsCommand, Executes, ExecutesIn}
use Rattle.sqlite.specs.State.{FailsToQuery, FailsToShow, IsNotRun, CommitsBy, shows_rows}
use Rattle.sqlite.proofs.Callers.{IsPlain, command_of, runs_as}
use Rattle.keep_tables.specs.Texts.{undo}

module _ (old new : State) where
  pub kept_same : IsUnchanged old new → KeepsCommit old new
  kept_same u = record { was_open = λ _. u.0.was_open; committed = λ _. u.0.committed_is }

  pub kept_undone : IsRolledBack old new → KeepsCommit old new
  kept_undone r = record { was_open = r.was_open; committed = λ h. (r.undone h).1 }

  -- a failure of the store keeps the last commit
  kept_failed : (U : Type 0) (e : Error) → Fails old new U e → KeepsCommit old new
  kept_failed U e h = kept_undone h.3

  -- so does a command that is refused
  kept_refused : (sql : List ℕ) (c : Compiled) (params : Row) (e : Error) → RunsCommand old new sql c params (Err e) →
      KeepsCommit old new
  kept_refused sql c params e (inl h) = kept_same h.1
  kept_refused sql c params e (inr h) = kept_failed _ e h

  -- and a text that is not run
  kept_unrun : (sql : List ℕ) (params : Row) (e : Error) → IsNotRun old new sql params e → KeepsCommit old new
  unfolding IsNotRun
  kept_unrun sql params e (inl h) = kept_same h.1
  kept_unrun sql params e (inr h) = kept_failed _ e h

  -- a statement that is refused commits nothing
  pub kept_if_refused : (sql : List ℕ) (params : Row) (e : Error) → Executes sql params old new (Err e) →
      KeepsCommit old new
  unfolding ExecutesIn
  kept_if_refused sql params e (inl h) = kept_unrun sql params e h
  kept_if_refused sql params e (inr h) = elim (cases_Bool (shows_rows false h.0)) [
    | inl shows ↦ kept_same (rw shows at h.2).1
    | inr runs ↦ kept_refused sql h.0 _ e (rw runs at h.2)
  ]

  -- and rows that are not shown
  kept_unshown : (sql : List ℕ) (c : Compiled) (params : Row) (e : Error) (what : _) →
      FailsToShow old new sql c params e what → KeepsCommit old new
  kept_unshown sql c params e None h = kept_same h.3
  kept_unshown sql c params e (Some what) h = kept_refused sql c params e h

  -- a query that is refused commits nothing
  pub kept_if_unread : (sql : List ℕ) (params : Row) (e : Error) → FailsToQuery sql params old new e →
      KeepsCommit old new
  unfolding FailsToQuery
  kept_if_unread sql params e (inl h) = kept_unrun sql params e h
  kept_if_unread sql params e (inr h) = kept_unshown sql h.0 _ e h.0.returning h.2

-- the text that undoes is understood as ROLLBACK
pub undo_is : (schema : Schema) → command_of (understood schema undo) ≡ Rollback
unfolding understood everything
undo_is schema = refl

-- and has no more to it
pub undo_plain : (schema : Schema) → IsPlain (understood schema undo)
unfolding understood everything
undo_plain schema = (refl, refl)

-- what is under way is undone
pub undone : (old new : State) (count : ℕ) → Executes undo [] old new (Ok count) → IsRolledBack old new
undone old new count h =
    (runs_as undo [] old new old.now.schema refl Rollback (undo_is old.now.schema) (undo_plain old.now.schema) count
    h).1

-- and nothing is committed by that
pub undo_commits_nothing : (old : State) (db : Trees) → ¬ CommitsBy undo [] old db
unfolding CommitsBy
undo_commits_nothing old db h =
    let known = h.1.is in
    let command : h.0.command ≡ Rollback = ap command_of (sym known) ∙ undo_is old.now.schema in
    let bare : h.0.returning ≡ None = (subst IsPlain known (undo_plain old.now.schema)).0 in
    elim (rw (command, bare) at h.2) [
      | inl commits ↦ elim commits.0 [ inl one ↦ absurd (cc) | inr two ↦ absurd (let e = two.2 in cc) ]
      | inr writes ↦ absurd (let e = writes.3 in cc)
    ]

-- steps that keep the last commit, one after another
pub kept_then : (a b c : State) → KeepsCommit a b → KeepsCommit b c → KeepsCommit a c
kept_then a b c p q =
    record { was_open = λ h. p.was_open (q.was_open h); committed = λ h. q.committed h ∙ p.committed (q.was_open h) }
