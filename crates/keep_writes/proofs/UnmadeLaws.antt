-- What is known of tables that were not made.
use Rattle.std.proofs.Common.{◌≡◌, ◌⊎◌, inl, inr, Bool, true, false, [], Option, Some, None}
use Rattle.std.proofs.Common.{Result, Ok, Err, IfErr, IsTrue, refl, sym, subst, ◌∙◌, MatchResult}
use Rattle.sqlite_trees.specs.declared.store.Store.{Ghosts}
use Rattle.sqlite.specs.declared.error.Error.{Error}
use Rattle.sqlite.specs.Held.{Held, state}
use Rattle.sqlite.specs.Listing.{understood}
use Rattle.sqlite.specs.State.{State, FailsToQuery, IsTooLate, KeepsCommit, Shows, Survives}
use Rattle.sqlite.specs.Steps.{FailsToCommit}
use Rattle.sqlite.proofs.Callers.{survives_begin}
use Rattle.keep_tables.specs.Steps.{StaysInside}
use Rattle.keep_tables.specs.Texts.{list_days}
use Rattle.keep_tables.proofs.PutLaws.{survives_both}
use Rattle.keep_tables.proofs.StepLaws.{kept_then}
use Rattle.keep_writes.specs.Growth.{IsUnderstood, SaysIf}
use Rattle.keep_writes.specs.Objects.{Lists, texts_of}
use Rattle.keep_writes.specs.Unmade.{SeesCommitted, lacking_texts, MakesTables, EndsTables, EndsInside, RefusesMaking}
use Rattle.keep_writes.specs.Unmade.{CommitsTables, IsUnmade, IsUnmadeBy}
use Rattle.keep_writes.proofs.CauseLaws.{kept_self, survives_self, kept_inside, err_then}

-- in a transaction that goes on, no query comes too late
pub in_time : (old new : State) (e : Error) → IsTrue old.in_transaction → FailsToQuery list_days [] old new e
    ⊎ IsTooLate list_days [] old new e → FailsToQuery list_days [] old new e
in_time old new e inside (inl fails) = fails
in_time old new e inside (inr late) = absurd (let wrong = sym late.3 ∙ inside in cc)

-- what changes nothing leaves a connection that sees what is committed
pub settled_on : (old new : State) → SeesCommitted old → Shows old new old.now old.committed old.in_transaction →
    SeesCommitted new
settled_on old new settled same here = same.now_is ∙ (settled same.was_open ∙ sym same.committed_is)

-- an error that was told is that of the call
pub told_of : (made : Result (Unit {0}) Error) (told : Option Error) (P : Error → Type 0) → IfErr made P →
    MatchResult made (λ _. told ≡ None) (λ e. told ≡ Some e) → (e : Error) → told ≡ Some e → P e
told_of (Ok u) told P h is e some = absurd (let wrong = sym is ∙ some in cc)
told_of (Err f) told P h is e some = let same : f ≡ e = (let both = sym is ∙ some in cc) in subst P same h

module _ {S : Type 0} (g : Ghosts S) where
  -- what refuses a step refuses it of a call that began with a step that commits nothing
  making_after : (old mid before after : Held S) (e : Error) → KeepsCommit (state g old) (state g mid) →
      RefusesMaking g mid before after e → RefusesMaking g old before after e
  making_after old mid before after e kept (inl h) = inl h
  making_after old mid before after e kept (inr (inl h)) = inr (inl h)
  making_after old mid before after e kept (inr (inr (inl h))) = inr (inr (inl h))
  making_after old mid before after e kept (inr (inr (inr (inl h)))) = inr (inr (inr (inl h)))
  making_after old mid before after e kept (inr (inr (inr (inr h)))) =
      inr (inr (inr (inr (record {
        is_old = h.is_old;
        start = h.start;
        found = λ here. let shown = h.found here in (kept.was_open shown.0, shown.1 ∙ kept.committed shown.0);
        says = h.says;
        lists = h.lists;
        inside = h.inside;
        refused = h.refused;
      }))))

  -- the call is the step
  pub unmade_now : (old new : Held S) (e : Error) → RefusesMaking g old old new e → IsUnmade g old new e
  unmade_now old new e h = record {
    before = old;
    after = new;
    refused = h;
    begun = kept_self (state g old);
    reached = survives_self (state g old);
    left = survives_self (state g new);
  }

  -- a step that commits nothing goes before
  pub unmade_after : (old mid new : Held S) (e : Error) → KeepsCommit (state g old) (state g mid) →
      Survives (state g old) (state g mid) (λ _. ⊥) → IsUnmade g mid new e → IsUnmade g old new e
  unmade_after old mid new e kept survives r = record {
    before = r.before;
    after = r.after;
    refused = making_after old mid r.before r.after e kept r.refused;
    begun = kept_then (state g old) (state g mid) (state g r.before) kept r.begun;
    reached = survives_both (state g old) (state g mid) (state g r.before) survives r.reached;
    left = r.left;
  }

  -- a transaction began with the call where nothing was under way, and one of its steps was refused
  pub unmade_begun : (is_old : Bool) (old last new : Held S) (e : Error) → SeesCommitted (state g old) →
      SaysIf is_old (IsUnderstood (understood (state g old).now.schema list_days)) →
      Lists (state g old).now (texts_of is_old) →
      EndsInside g (EndsTables g (lacking_texts is_old)) (record old { in_transaction = true }) last e →
      Survives (state g last) (state g new) (λ _. ⊥) → IsUnmade g old new e
  unmade_begun is_old old last new e settled says lists r survives = record {
    before = r.before;
    after = r.after;
    refused = inr (inr (inr (inr (record {
      is_old = is_old;
      start = record old { in_transaction = true };
      found = λ here. (here, settled here);
      says = says;
      lists = lists;
      inside = r.inside;
      refused = inl r.refused;
    }))));
    begun = record { was_open = r.begun.was_open; committed = r.begun.committed };
    reached = survives_begin g old (state g r.before) _ r.reached;
    left = survives_both (state g r.after) (state g last) (state g new) r.left survives;
  }

  -- its commit was refused
  pub commit_unmade : (is_old : Bool) (old last end : Held S) (e : Error) → SeesCommitted (state g old) →
      SaysIf is_old (IsUnderstood (understood (state g old).now.schema list_days)) →
      Lists (state g old).now (texts_of is_old) →
      MakesTables g (lacking_texts is_old) (record old { in_transaction = true }) last →
      StaysInside (state g (record old { in_transaction = true })) (state g last) (Ok tt) →
      Survives (state g (record old { in_transaction = true })) (state g last) (λ _. ⊥) →
      FailsToCommit (state g last) (state g end) e → IsUnmade g old end e
  commit_unmade is_old old last end e settled says lists makes inside survives fails =
      let begun : Held S = record old { in_transaction = true } in
      let kept = kept_inside (state g begun) (state g last) inside in
      record {
        before = last;
        after = end;
        refused = inr (inr (inr (inr (record {
          is_old = is_old;
          start = begun;
          found = λ here. (here, settled here);
          says = says;
          lists = lists;
          inside = inside.mode;
          refused = inr (makes, fails);
        }))));
        begun = record { was_open = kept.was_open; committed = kept.committed };
        reached = survives_begin g old (state g last) _ survives;
        left = survives_self (state g end);
      }

  -- what is committed of a transaction that began with the call where nothing was under way
  pub tables_begun : (is_old : Bool) (old last new : Held S) → SeesCommitted (state g old) →
      SaysIf is_old (IsUnderstood (understood (state g old).now.schema list_days)) →
      Lists (state g old).now (texts_of is_old) →
      MakesTables g (lacking_texts is_old) (record old { in_transaction = true }) last →
      (state g new).committed ≡ (state g last).now → CommitsTables g old new
  tables_begun is_old old last new settled says lists makes committed = record {
    is_old = is_old;
    start = record old { in_transaction = true };
    last = last;
    found = λ here. (here, settled here);
    says = says;
    lists = lists;
    makes = makes;
    committed = committed;
  }

  -- the same behind a step that commits nothing
  pub tables_after : (old mid new : Held S) → KeepsCommit (state g old) (state g mid) → CommitsTables g mid new →
      CommitsTables g old new
  tables_after old mid new kept it = record {
    is_old = it.is_old;
    start = it.start;
    last = it.last;
    found = λ here. let shown = it.found here in (kept.was_open shown.0, shown.1 ∙ kept.committed shown.0);
    says = it.says;
    lists = it.lists;
    makes = it.makes;
    committed = it.committed;
  }

  -- the same of one that commits nothing, where a transaction is under way or not
  pub unmade_then : {T : Type 0} (old mid new : Held S) (r : Result T Error) →
      (state g mid).in_transaction ≡ (state g old).in_transaction → KeepsCommit (state g old) (state g mid) →
      Survives (state g old) (state g mid) (λ _. ⊥) →
      IfErr r (λ e. IsTrue (state g mid).in_transaction ⊎ IsUnmade g mid new e) →
      IfErr r (λ e. IsTrue (state g old).in_transaction ⊎ IsUnmade g old new e)
  unmade_then old mid new r mode kept survives h =
      err_then r (λ e. IsTrue (state g mid).in_transaction ⊎ IsUnmade g mid new e)
      (λ e. IsTrue (state g old).in_transaction ⊎ IsUnmade g old new e) h
      (λ e it. either e it)
    where
      either : (e : Error) → IsTrue (state g mid).in_transaction ⊎ IsUnmade g mid new e →
          IsTrue (state g old).in_transaction ⊎ IsUnmade g old new e
      either e (inl inside) = inl (sym mode ∙ inside)
      either e (inr it) = inr (unmade_after old mid new e kept survives it)

  -- what is told of an error that is one
  pub unmade_told : (old new : Held S) (told : Option Error) →
      ((e : Error) → told ≡ Some e → IsUnmade g old new e) → IsUnmadeBy g old new told
  unmade_told old new None h = tt
  unmade_told old new (Some e) h = h e refl

  -- where nothing is under way, it is the cause
  pub unmade_settled : {T : Type 0} (old mid new : Held S) (r : Result T Error) →
      (state g mid).in_transaction ≡ false → KeepsCommit (state g old) (state g mid) →
      Survives (state g old) (state g mid) (λ _. ⊥) →
      IfErr r (λ e. IsTrue (state g mid).in_transaction ⊎ IsUnmade g mid new e) → IfErr r (IsUnmade g old new)
  unmade_settled old mid new r calm kept survives h =
      err_then r (λ e. IsTrue (state g mid).in_transaction ⊎ IsUnmade g mid new e) (IsUnmade g old new) h only
    where
      only : (e : Error) → IsTrue (state g mid).in_transaction ⊎ IsUnmade g mid new e → IsUnmade g old new e
      only e (inl inside) = absurd (let wrong = sym calm ∙ inside in cc)
      only e (inr it) = unmade_after old mid new e kept survives it
