-- How the steps of a put are one put.
use Rattle.std.proofs.Common.{◌≡◌, ◌⊎◌, inl, inr, Bool, true, false, Result, Ok, Err, IfOk, IfErr, sym}
use Rattle.std.proofs.Common.{ap, subst}
use Rattle.std.proofs.Common.{◌∙◌}
use Rattle.sqlite_trees.specs.declared.error.StoreError.{StoreError}
use Rattle.sqlite_trees.specs.declared.store.Store.{Ghosts}
use Rattle.sqlite_trees.specs.Tree.{Trees}
use Rattle.sqlite_trees.specs.View.{View, IsClean, KeepsCommitted, OnlyWrites}
use Rattle.keep_office.specs.Office.{Office}
use Rattle.keep_puts.specs.Trees.{StandFor}
use Rattle.keep_puts.specs.Steps.{IfDone}
use Rattle.keep_puts.specs.Room.{IsDoneIf}
use Rattle.keep_puts.specs.Causes.{PutCause}
use Rattle.keep_puts.specs.Stores.{IsNotDone, StaysCommitted, Makes, Stores}

-- a step that failed leaves what was committed
pub stays_after : (u v w : View) → StaysCommitted u v → KeepsCommitted v w → StaysCommitted u w
stays_after u v w p q = record {
  was_open = λ here. p.was_open (q.was_open here);
  committed = λ here. q.committed here ∙ p.committed (q.was_open here);
}

-- so does one that only writes
pub stays_written : (u v w : View) → StaysCommitted u v → OnlyWrites v w → StaysCommitted u w
stays_written u v w p q =
    let same : w.is_open ≡ v.is_open = ap (λ (x : View). x.is_open) q in
    record {
      was_open = λ here. p.was_open (sym same ∙ here);
      committed = λ here. ap (λ (x : View). x.committed) q ∙ p.committed (sym same ∙ here);
    }

-- and two such stretches
pub stays_then : (u v w : View) → StaysCommitted u v → StaysCommitted v w → StaysCommitted u w
stays_then u v w p q = record {
  was_open = λ here. p.was_open (q.was_open here);
  committed = λ here. q.committed here ∙ p.committed (q.was_open here);
}

-- a put that was not done
pub refuses : {S : Type 0} (g : Ghosts S) (room : View → Type 0) (asks : Office → Type 0) (next : Office → Office)
    (old new : S) (r : Result Bool StoreError) → IsNotDone r
    → (IsClean (g.view new) → StaysCommitted (g.view old) (g.view new))
    → (IsClean (g.view new) → IfOk r (IsDoneIf (room (g.view old))))
    → (IsClean (g.view new) → IfErr r (PutCause g old new))
    → ((db : Trees) → g.recovers new db → g.recovers old db) → Stores g room asks next old new r
refuses g room asks next old new r none stays done because outcomes = record {
  makes = λ clean. nothing r none;
  stays = λ clean _. stays clean;
  done = done;
  because = because;
  crash = λ db found. inr (outcomes db found);
}
  where
    nothing : (x : Result Bool StoreError) → IsNotDone x →
        IfOk x (λ done. IfDone done (Makes asks next (g.view old).committed (g.view new).committed))
    nothing (Ok true) bad = absurd bad
    nothing (Ok false) bad = tt
    nothing (Err e) bad = tt

-- what is made of trees is made of the same ones
made_of : (asks : Office → Type 0) (next : Office → Office) (was old now new : Trees) → old ≡ was → new ≡ now
    → Makes asks next old now → Makes asks next was new
made_of asks next was old now new p q makes o stand fit =
    subst (λ t. StandFor t (next o)) (sym q) (makes o (subst (λ t. StandFor t o) (sym p) stand) fit)

-- a put that was committed
pub committed_so : (asks : Office → Type 0) (next : Office → Office) (was old now new : Trees) (done : Bool)
    (r : Result Bool StoreError) → old ≡ was → IfDone done (Makes asks next old now) → IfOk r (λ is. is ≡ done)
    → IfOk r (λ is. IfDone is (new ≡ now)) → IfOk r (λ is. IfDone is (Makes asks next was new))
committed_so asks next was old now new done (Ok true) p makes same q =
    made_of asks next was old now new p q
    (subst (λ b. IfDone b (Makes asks next old now)) (sym same) makes)
committed_so asks next was old now new done (Ok false) p makes same q = tt
committed_so asks next was old now new done (Err e) p makes same q = tt

-- what a crash finds of a put
pub crashed_so : (asks : Office → Type 0) (next : Office → Office) (was old now new : Trees) (done : Bool)
    → old ≡ was → new ≡ now → done ≡ true → IfDone done (Makes asks next old now) → Makes asks next was new
crashed_so asks next was old now new done p q is makes =
    made_of asks next was old now new p q (subst (λ b. IfDone b (Makes asks next old now)) is makes)

-- a step that has to be done where something holds has to be where more does
pub done_if : {E : Type 0} (r : Result Bool E) (P Q : Type 0) → (Q → P) → IfOk r (IsDoneIf P) → IfOk r (IsDoneIf Q)
done_if (Ok is) P Q f must = λ q. must (f q)
done_if (Err e) P Q f must = tt

-- an answer that tells whether a step was done tells it where that has to be
pub done_so : {E : Type 0} (r : Result Bool E) (done : Bool) (P : Type 0) → IfOk r (λ is. is ≡ done) → IsDoneIf P done →
    IfOk r (IsDoneIf P)
done_so (Ok is) done P same must = λ fit. same ∙ must fit
done_so (Err e) done P same must = tt

-- a put that was begun, written and committed: what was written is what the office becomes, and a crash before the end
-- finds what it found at first
pub finished : {S : Type 0} (g : Ghosts S) (room : View → Type 0) (asks : Office → Type 0) (next : Office → Office)
    (a b c d : S) (done : Bool) (r : Result Bool StoreError)
    → (IsClean (g.view b) → (g.view b).trees ≡ (g.view a).committed)
    → (IsClean (g.view b) → StaysCommitted (g.view a) (g.view b))
    → ((db : Trees) → g.recovers b db → g.recovers a db)
    → (IsClean (g.view c) → IsClean (g.view b))
    → (IsClean (g.view c) → IfDone done (Makes asks next (g.view b).trees (g.view c).trees))
    → (IsClean (g.view c) → OnlyWrites (g.view b) (g.view c))
    → ((db : Trees) → g.recovers c db → g.recovers b db)
    → ((g.view c).is_broken ≡ false → IsClean (g.view c))
    → (IsClean (g.view d) → IsClean (g.view c))
    → IfOk r (λ is. is ≡ done)
    → (IsClean (g.view d) → IfOk r (λ is. IfDone is ((g.view d).committed ≡ (g.view c).trees)))
    → (IsClean (g.view d) → IsNotDone r → StaysCommitted (g.view c) (g.view d))
    → ((db : Trees) → g.recovers d db → (((g.view c).is_broken ≡ false) × (db ≡ (g.view c).trees) × (done ≡ true))
    ⊎ g.recovers c db)
    → (IsClean (g.view c) → IsDoneIf (room (g.view a)) done)
    → (IsClean (g.view d) → IfErr r (PutCause g a d))
    → Stores g room asks next a d r
finished g room asks next a b c d done r settled stays quiet clean_b wrote frame quieter sound clean_c same commits left
    crash must because =
    record {
      makes = λ clean.
          let in_c = clean_c clean in
          let in_b = clean_b in_c in
          committed_so asks next (g.view a).committed (g.view b).trees (g.view c).trees (g.view d).committed done r
          (settled in_b) (wrote in_c) same (commits clean);
      stays = λ clean none.
          let in_c = clean_c clean in
          let in_b = clean_b in_c in
          stays_then (g.view a) (g.view c) (g.view d)
          (stays_written (g.view a) (g.view b) (g.view c) (stays in_b) (frame in_c)) (left clean none);
      done = λ clean. done_so r done (room (g.view a)) same (must (clean_c clean));
      because = because;
      crash = λ db found. elim (crash db found) [
        | inl now ↦ inl (crashed_so asks next (g.view a).committed (g.view b).trees (g.view c).trees db done
            (settled (clean_b (sound now.0))) now.1 now.2 (wrote (sound now.0)))
        | inr before ↦ inr (quiet db (quieter db before))
      ];
    }
