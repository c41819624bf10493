-- What the making of tables leaves after each of its steps, also where it crashes.
use Rattle.std.proofs.Common.{◌≡◌, Bool, true, []}
use Rattle.std.proofs.Common.{Ok, IsTrue, refl}
use Rattle.std.proofs.Common.{sym, subst, ◌∙◌, arith}
use Rattle.sqlite_trees.specs.Tree.{Trees}
use Rattle.sqlite_trees.specs.declared.store.Store.{Ghosts}
use Rattle.sqlite.specs.Effect.{Database}
use Rattle.sqlite.specs.Held.{Held, state}
use Rattle.sqlite.specs.Listing.{understood}
use Rattle.sqlite.specs.State.{State, HasCleanDisk, Survives, KeepsCommit, IsUnchanged}
use Rattle.sqlite.proofs.Callers.{survives_begin}
use Rattle.sqlite.proofs.StateLemmas.{survives_then}
use Rattle.keep_office.specs.Office.{Office}
use Rattle.keep_tables.specs.Texts.{list_days}
use Rattle.keep_tables.specs.Stands.{HasOffice, StandsForOffice}
use Rattle.keep_tables.specs.Steps.{StaysInside}
use Rattle.keep_writes.specs.Growth.{Stood, IsUnderstood, SaysIf, LacksVersion, CommitsGrown}
use Rattle.keep_writes.specs.Growth.{CommitsListed, CommitsHere, CommitsOpen, CommitsSame}
use Rattle.keep_writes.specs.Objects.{Lists, MayBeMade, texts_of}
use Rattle.keep_writes.specs.Unmade.{lacking_texts, MakesTables, LeavesGrown, LeavesListed, LeavesHere, LeavesOpen}
use Rattle.keep_writes.specs.Unmade.{LeavesTables}
use Rattle.keep_writes.proofs.GrowLaws.{stood_by}
use Rattle.keep_writes.proofs.UnmadeRuns.{makes_after}

-- a transaction that wrote the tables and then committed
pub grown_survives : {S : Type 0} (g : Ghosts S) (old : Held S) (last end : State) (is_old : Bool) →
    Survives (state g (record old { in_transaction = true })) last (λ _. ⊥) →
    Survives last end (λ db. db ≡ last.now.trees)
    → (HasCleanDisk last → StaysInside (state g (record old { in_transaction = true })) last (Ok tt)) →
    (HasCleanDisk last → (o : Office) → Stood is_old (state g old).now o → HasOffice last.now o)
    → Survives (state g old) end (CommitsGrown is_old (state g old))
grown_survives g old last end is_old written committed inside wrote =
    survives_then (state g old) last end (λ _. ⊥) (λ db. db ≡ last.now.trees) (CommitsGrown is_old (state g old))
    (λ _ db none. absurd none)
    (λ clean db is.
    let late : HasCleanDisk last = omega (arith, committed.clean) in
    ((inside late).was_open, λ o stood. (last.now, wrote late o stood, is)))
    (survives_begin g old last _ written) committed

-- after it was seen which tables are there
pub here_survives : (old mid new : State) (is_old : Bool) → (HasCleanDisk mid → IsUnchanged old mid) →
    (HasCleanDisk mid → SaysIf is_old (IsUnderstood (understood old.now.schema list_days))) → Survives old mid (λ _. ⊥)
    → Survives mid new (CommitsListed is_old mid) → Survives old new (CommitsHere old)
here_survives old mid new is_old same says first last =
    survives_then old mid new (λ _. ⊥) (CommitsListed is_old mid) (CommitsHere old) (λ _ db none. absurd none)
    (λ clean db made.
    let early : HasCleanDisk mid = omega (arith, last.clean) in
    let kept = (same early).0 in (
      kept.was_open,
      λ lacks o stands. made.0.1 o
          (subst (λ (d : Database). Stood is_old d o) (sym kept.now_is)
          (stood_by is_old old.now o stands lacks (says early))),
      (is_old, subst (λ (d : Database). Lists d (texts_of is_old)) kept.now_is made.1),
    )) first last

-- after the texts that are listed were seen
pub listed_survives : (old mid new : State) (is_old : Bool) → (HasCleanDisk mid → IsUnchanged old mid) →
    (HasCleanDisk mid → Lists old.now (texts_of is_old)) → Survives old mid (λ _. ⊥)
    → Survives mid new (CommitsGrown is_old mid) → Survives old new (CommitsListed is_old old)
listed_survives old mid new is_old same lists first last =
    survives_then old mid new (λ _. ⊥) (CommitsGrown is_old mid) (CommitsListed is_old old) (λ _ db none. absurd none)
    (λ clean db made.
    let early : HasCleanDisk mid = omega (arith, last.clean) in
    let kept = (same early).0 in (
      (kept.was_open, λ o stood. made.1 o (subst (λ (d : Database). Stood is_old d o) (sym kept.now_is) stood)),
      lists early,
    )) first last

-- after it was seen that there are not all six tables
pub open_survives : (old mid new : State) → (HasCleanDisk mid → IsUnchanged old mid) →
    (HasCleanDisk mid → LacksVersion old.now) → Survives old mid (λ _. ⊥) → Survives mid new (CommitsHere mid) →
    Survives old new (CommitsOpen old)
open_survives old mid new same lacks first last =
    survives_then old mid new (λ _. ⊥) (CommitsHere mid) (CommitsOpen old) (λ _ db none. absurd none)
    (λ clean db made.
    let early : HasCleanDisk mid = omega (arith, last.clean) in
    let kept = (same early).0 in (
      kept.was_open,
      λ o stands. made.1 (subst LacksVersion (sym kept.now_is) (lacks early)) o
          (subst (λ (d : Database). StandsForOffice d o) (sym kept.now_is) stands),
      subst MayBeMade kept.now_is made.2,
    )) first last

-- after what was under way was undone
pub same_survives : (old mid new : State) → (HasCleanDisk mid → IsTrue mid.is_open → mid.now ≡ mid.committed) →
    (HasCleanDisk mid → KeepsCommit old mid) → Survives old mid (λ _. ⊥) → Survives mid new (CommitsOpen mid) →
    Survives old new (CommitsSame old.committed)
same_survives old mid new settled kept first last =
    survives_then old mid new (λ _. ⊥) (CommitsOpen mid) (CommitsSame old.committed) (λ _ db none. absurd none)
    (λ clean db made.
    let early : HasCleanDisk mid = omega (arith, last.clean) in
    let now = settled early made.0 ∙ (kept early).committed made.0 in (
      λ o stands. made.1 o (subst (λ (d : Database). StandsForOffice d o) (sym now) stands),
      subst MayBeMade now made.2,
    )) first last

-- what keeps the database that is seen keeps what is committed, also after what was under way was undone
pub kept_there : (P : Database → Type 0) (old mid new : State) → (IsTrue new.is_open → IsTrue mid.is_open) →
    (IsTrue mid.is_open → mid.now ≡ mid.committed) → KeepsCommit old mid → (P mid.now → KeepsCommit mid new) →
    P old.committed → KeepsCommit old new
kept_there P old mid new before settled kept stays so =
    let same = λ (here : IsTrue new.is_open). settled (before here) ∙ kept.committed (before here) in
    record {
      was_open = λ here. kept.was_open (before here);
      committed =
          λ here. (stays (subst P (sym (same here)) so)).committed here
          ∙ kept.committed (before here);
    }

module _ {S : Type 0} (g : Ghosts S) where
  -- what was made behind a step that changes nothing
  grown_after : (is_old : Bool) (old mid : Held S) (trees : Trees) → IsUnchanged (state g old) (state g mid) →
      LeavesGrown g is_old mid trees → LeavesGrown g is_old old trees
  grown_after is_old old mid trees same it =
      (it.0, makes_after g [] (lacking_texts is_old) old mid it.0 (λ here. (same.0.was_open, same.0.now_is)) it.1, it.2)

  -- what a crash leaves of a transaction that made the tables and then committed
  pub grown_leaves : (is_old : Bool) (old last end : Held S) →
      Survives (state g (record old { in_transaction = true })) (state g last) (λ _. ⊥) →
      Survives (state g last) (state g end) (λ db. db ≡ (state g last).now.trees) →
      (HasCleanDisk (state g last) →
      MakesTables g (lacking_texts is_old) (record old { in_transaction = true }) last) →
      Survives (state g old) (state g end) (LeavesGrown g is_old old)
  grown_leaves is_old old last end written committed makes =
      survives_then (state g old) (state g last) (state g end) (λ _. ⊥) (λ db. db ≡ (state g last).now.trees)
      (LeavesGrown g is_old old) (λ _ db none. absurd none)
      (λ clean db is.
      let late : HasCleanDisk (state g last) = omega (arith, committed.clean) in (
        last,
        makes_after g [] (lacking_texts is_old) old (record old { in_transaction = true }) last (λ here. (here, refl))
            (makes late),
        is,
      )) (survives_begin g old (state g last) _ written) committed

  -- what one leaves after the texts that are listed were seen
  pub listed_leaves : (is_old : Bool) (old mid new : Held S) →
      (HasCleanDisk (state g mid) → IsUnchanged (state g old) (state g mid)) →
      (HasCleanDisk (state g mid) → Lists (state g old).now (texts_of is_old)) →
      Survives (state g old) (state g mid) (λ _. ⊥) →
      Survives (state g mid) (state g new) (LeavesGrown g is_old mid) →
      Survives (state g old) (state g new) (LeavesListed g is_old old)
  listed_leaves is_old old mid new same lists first last =
      survives_then (state g old) (state g mid) (state g new) (λ _. ⊥) (LeavesGrown g is_old mid)
      (LeavesListed g is_old old) (λ _ db none. absurd none)
      (λ clean db it.
      let early : HasCleanDisk (state g mid) = omega (arith, last.clean) in
      (grown_after is_old old mid db (same early) it, lists early)) first last

  -- what one leaves after it was seen which tables are there
  pub here_leaves : (is_old : Bool) (old mid new : Held S) →
      (HasCleanDisk (state g mid) → IsUnchanged (state g old) (state g mid)) →
      (HasCleanDisk (state g mid) → SaysIf is_old (IsUnderstood (understood (state g old).now.schema list_days))) →
      Survives (state g old) (state g mid) (λ _. ⊥) →
      Survives (state g mid) (state g new) (LeavesListed g is_old mid) →
      Survives (state g old) (state g new) (LeavesHere g old)
  here_leaves is_old old mid new same says first last =
      survives_then (state g old) (state g mid) (state g new) (λ _. ⊥) (LeavesListed g is_old mid) (LeavesHere g old)
      (λ _ db none. absurd none)
      (λ clean db it.
      let early : HasCleanDisk (state g mid) = omega (arith, last.clean) in (
        is_old,
        says early,
        (
          grown_after is_old old mid db (same early) it.0,
          subst (λ (d : Database). Lists d (texts_of is_old)) (same early).0.now_is it.1,
        ),
      )) first last

  -- what one leaves after it was seen that there are not all six tables
  pub open_leaves : (old mid new : Held S) →
      (HasCleanDisk (state g mid) → IsUnchanged (state g old) (state g mid)) →
      (HasCleanDisk (state g mid) → LacksVersion (state g old).now) → Survives (state g old) (state g mid) (λ _. ⊥) →
      Survives (state g mid) (state g new) (LeavesHere g mid) →
      Survives (state g old) (state g new) (LeavesOpen g old)
  open_leaves old mid new same lacks first last =
      survives_then (state g old) (state g mid) (state g new) (λ _. ⊥) (LeavesHere g mid) (LeavesOpen g old)
      (λ _ db none. absurd none)
      (λ clean db it.
      let early : HasCleanDisk (state g mid) = omega (arith, last.clean) in
      let now = (same early).0.now_is in (
        lacks early,
        (
          it.0,
          subst (λ (d : Database). SaysIf it.0 (IsUnderstood (understood d.schema list_days))) now it.1,
          (
            grown_after it.0 old mid db (same early) it.2.0,
            subst (λ (d : Database). Lists d (texts_of it.0)) now it.2.1,
          ),
        ),
      )) first last

  -- what one leaves after what was under way was undone
  pub tables_leave : (old mid new : Held S) →
      (HasCleanDisk (state g mid) → IsTrue (state g mid).is_open → (state g mid).now ≡ (state g mid).committed) →
      (HasCleanDisk (state g mid) → KeepsCommit (state g old) (state g mid)) →
      Survives (state g old) (state g mid) (λ _. ⊥) → Survives (state g mid) (state g new) (LeavesOpen g mid) →
      Survives (state g old) (state g new) (LeavesTables g old)
  tables_leave old mid new settled kept first last =
      survives_then (state g old) (state g mid) (state g new) (λ _. ⊥) (LeavesOpen g mid) (LeavesTables g old)
      (λ _ db none. absurd none)
      (λ clean db it.
      let early : HasCleanDisk (state g mid) = omega (arith, last.clean) in
      record {
        is_old = it.1.0;
        start = mid;
        last = it.1.2.0.0;
        found = λ here. ((kept early).was_open here, settled early here ∙ (kept early).committed here);
        lacks = it.0;
        says = it.1.1;
        lists = it.1.2.1;
        makes = it.1.2.0.1;
        is = it.1.2.0.2;
      }) first last
