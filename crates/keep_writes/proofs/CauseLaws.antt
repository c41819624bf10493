-- What a failure says of a refusal.
use Rattle.std.proofs.Common.{ℕ, ◌≡◌, ◌↔◌, inl, inr, true, List, [], ◌++◌, Err, Ok, Result, IfOk, IfErr, OnOk}
use Rattle.std.proofs.Common.{IsErrAnd, IsTrue}
use Rattle.std.proofs.Common.{refl, sym, subst, arith, ap, ◌∙◌, ◌∷◌}
use Rattle.std.proofs.lemmas.List.{append_assoc}
use Rattle.sqlite_value.specs.Order.{Row}
use Rattle.sqlite_trees.specs.declared.store.Store.{Ghosts}
use Rattle.sqlite.specs.declared.error.Error.{Error}
use Rattle.sqlite.specs.declared.error.Error.TheVariants.{SqliteFailure}
use Rattle.sqlite.specs.declared.error.ErrorCode.TheVariants.{OutOfMemory}
use Rattle.sqlite.specs.Held.{Held, state}
use Rattle.sqlite.specs.State.{State, ExecutesInside, KeepsCommit, Survives}
use Rattle.sqlite.specs.Steps.{FailsToCommit}
use Rattle.sqlite.proofs.Callers.{survives_begin}
use Rattle.keep_office.specs.declared.kept.KeepFault.{KeepFault}
use Rattle.keep_office.specs.declared.kept.KeepFault.TheVariants.{Failed, NoMemory}
use Rattle.keep_tables.specs.Steps.{StaysInside}
use Rattle.keep_tables.proofs.PutLaws.{survives_both}
use Rattle.keep_tables.proofs.StepLaws.{kept_then}
use Rattle.keep_writes.specs.Causes.{IsOneOf, written_texts, RefusesStep, RefusedInside, RefusedOf}
use Rattle.keep_writes.specs.Causes.{RefusedIn}
use Rattle.keep_writes.specs.Causes.{WritesSome, WasRefusedOf, WasRefusedIn}
use Rattle.keep_writes.specs.Causes.{WasRefused, HasCauseOf, HasCause}
use Rattle.keep_writes.specs.Runs.{RanAll}
use Rattle.keep_writes.proofs.RunLaws.{all_none, all_then, on_after, on_begun}

pub ok_then : {T E : Type 0} (r : Result T E) (P Q : T → Type 0) → IfOk r P → ((x : T) → P x → Q x) → IfOk r Q
ok_then (Ok x) P Q p f = f x p
ok_then (Err e) P Q p f = p

pub err_then : {T E : Type 0} (r : Result T E) (P Q : E → Type 0) → IfErr r P → ((e : E) → P e → Q e) → IfErr r Q
err_then (Ok x) P Q p f = p
err_then (Err e) P Q p f = f e p

-- an error that is handed on is the call's
pub err_handed : {T E : Type 0} (r : Result T E) (e : E) (P : E → Type 0) → IsErrAnd r (λ f. f ≡ e) → P e → IfErr r P
err_handed (Ok x) e P same p = absurd same
err_handed (Err f) e P same p = subst P (sym same) p

-- what follows of what holds where a call went well
pub on_then : {T E : Type 0} (r : Result T E) (P Q : Type 0) → OnOk r P → (P → Q) → OnOk r Q
on_then (Ok x) P Q p f = f p
on_then (Err e) P Q p f = tt

-- where nothing is done, nothing is committed
pub kept_self : (s : State) → KeepsCommit s s
kept_self s = record { was_open = λ here. here; committed = λ here. refl }

-- and no crash leaves anything else
pub survives_self : (s : State) → Survives s s (λ _. ⊥)
survives_self s = record {
  clean = omega arith;
  shield = λ h. h;
  counts = omega arith;
  limit = refl;
  closes = λ clean here. inl here;
  crash = λ clean db left. inl left;
}

-- a step that goes on in a transaction commits nothing
pub kept_inside : (old new : State) → StaysInside old new (Ok tt) → KeepsCommit old new
kept_inside old new s = record { was_open = λ here. s.was_open; committed = λ here. s.committed_is }

-- a call that writes nothing has no text
no_text : (done rest : List (List ℕ × Row)) (text : List ℕ × Row) → [] ≡ done ++ text ∷ rest → ⊥
no_text [] rest text is = absurd (cc)
no_text (first ∷ done) rest text is = absurd (cc)

module _ {S : Type 0} (g : Ghosts S) where
  -- what refuses a step of a call that writes nothing refuses one of any call
  step_idle : (texts : List (List ℕ × Row)) (sql : List ℕ) (params : Row) (old before after : Held S) (e : Error) →
      RefusesStep g [] sql params old before after e → RefusesStep g texts sql params old before after e
  step_idle texts sql params old before after e (inl h) = inl h
  step_idle texts sql params old before after e (inr (inl h)) = inr (inl h)
  step_idle texts sql params old before after e (inr (inr (inl h))) =
      absurd (no_text h.3.done h.3.rest (sql, params) h.3.is)
  step_idle texts sql params old before after e (inr (inr (inr h))) = absurd (no_text [] h.0.rest h.0.text h.0.is)

  -- what refuses a step refuses it of a call that began with a step that commits nothing
  step_after : (texts : List (List ℕ × Row)) (sql : List ℕ) (params : Row) (old mid before after : Held S) (e : Error) →
      KeepsCommit (state g old) (state g mid) → RefusesStep g texts sql params mid before after e →
      RefusesStep g texts sql params old before after e
  step_after texts sql params old mid before after e kept (inl h) = inl h
  step_after texts sql params old mid before after e kept (inr (inl h)) = inr (inl h)
  step_after texts sql params old mid before after e kept (inr (inr (inl h))) = inr (inr (inl (
    h.0,
    h.1,
    h.2,
    record {
      done = h.3.done;
      rest = h.3.rest;
      is = h.3.is;
      ran = on_after g h.3.done old mid before kept h.3.ran;
    },
  )))
  step_after texts sql params old mid before after e kept (inr (inr (inr h))) =
      inr (inr (inr (h.0, h.1, h.2, on_after g texts old mid before kept h.3)))

  -- what is refused of a call that writes nothing is refused of any call
  pub refused_idle : (texts : List (List ℕ × Row)) (old new : Held S) (e : Error) → RefusedIn g old new e →
      RefusedOf g texts old new e
  refused_idle texts old new e r = record {
    sql = r.sql;
    params = r.params;
    before = r.before;
    after = r.after;
    refused = step_idle texts r.sql r.params old r.before r.after e r.refused;
    begun = r.begun;
    reached = r.reached;
    left = r.left;
  }

  -- so is its cause one of any call
  pub cause_idle : (W : List (List ℕ × Row)) (old new : Held S) (f : KeepFault) → HasCause g old new f →
      HasCauseOf g W old new f
  cause_idle W old new Failed h = record {
    error = h.error;
    cause = h.cause;
    refused = refused_idle W old new h.error h.refused;
  }
  cause_idle W old new NoMemory h = refused_idle W old new (SqliteFailure OutOfMemory) h

  -- the call is the step
  pub refused_now : {W : List (List ℕ × Row)} (old new : Held S) (sql : _) (params : Row) (e : Error) →
      RefusesStep g W sql params old old new e → RefusedOf g W old new e
  refused_now old new sql params e h = record {
    sql = sql;
    params = params;
    before = old;
    after = new;
    refused = h;
    begun = kept_self (state g old);
    reached = survives_self (state g old);
    left = survives_self (state g new);
  }

  -- a step that commits nothing goes before
  pub refused_after : {W : List (List ℕ × Row)} (old mid new : Held S) (e : Error) →
      KeepsCommit (state g old) (state g mid) → Survives (state g old) (state g mid) (λ _. ⊥) →
      RefusedOf g W mid new e → RefusedOf g W old new e
  refused_after old mid new e kept survives r = record {
    sql = r.sql;
    params = r.params;
    before = r.before;
    after = r.after;
    refused = step_after _ r.sql r.params old mid r.before r.after e kept r.refused;
    begun = kept_then (state g old) (state g mid) (state g r.before) kept r.begun;
    reached = survives_both (state g old) (state g mid) (state g r.before) survives r.reached;
    left = r.left;
  }

  -- what is refused ends with a step that commits nothing
  pub refused_before : {W : List (List ℕ × Row)} (old mid new : Held S) (e : Error) → RefusedOf g W old mid e →
      Survives (state g mid) (state g new) (λ _. ⊥) → RefusedOf g W old new e
  refused_before old mid new e r survives = record {
    sql = r.sql;
    params = r.params;
    before = r.before;
    after = r.after;
    refused = r.refused;
    begun = r.begun;
    reached = r.reached;
    left = survives_both (state g r.after) (state g mid) (state g new) r.left survives;
  }

  -- a text alone is the call
  pub text_refused : (old new : Held S) (sql : List ℕ) (params : Row) (e : Error) → IsOneOf written_texts sql →
      IsTrue (state g old).in_transaction → ExecutesInside 0 sql params (state g old) (state g new) (Err e) →
      RefusedInside g ((sql, params) ∷ []) old new e
  text_refused old new sql params e is_one inside refused = record {
    done = [];
    text = (sql, params);
    rest = [];
    before = old;
    after = new;
    is = refl;
    is_one = is_one;
    inside = inside;
    refused = refused;
    ran = all_none g old;
    begun = kept_self (state g old);
    reached = survives_self (state g old);
    left = survives_self (state g new);
  }

  -- the first texts of a call are the first of one that writes more
  pub inside_first : (texts more : List (List ℕ × Row)) (old new : Held S) (e : Error) →
      RefusedInside g texts old new e → RefusedInside g (texts ++ more) old new e
  inside_first texts more old new e r = record {
    done = r.done;
    text = r.text;
    rest = r.rest ++ more;
    before = r.before;
    after = r.after;
    is = ap (λ (l : List (List ℕ × Row)). l ++ more) r.is ∙ append_assoc r.done (r.text ∷ r.rest) more;
    is_one = r.is_one;
    inside = r.inside;
    refused = r.refused;
    ran = r.ran;
    begun = r.begun;
    reached = r.reached;
    left = r.left;
  }

  -- texts of the call ran before
  pub inside_after : (texts more : List (List ℕ × Row)) (old mid new : Held S) (e : Error) → RanAll g texts old mid →
      KeepsCommit (state g old) (state g mid) → Survives (state g old) (state g mid) (λ _. ⊥) →
      RefusedInside g more mid new e → RefusedInside g (texts ++ more) old new e
  inside_after texts more old mid new e ran kept survives r = record {
    done = texts ++ r.done;
    text = r.text;
    rest = r.rest;
    before = r.before;
    after = r.after;
    is = ap (λ (l : List (List ℕ × Row)). texts ++ l) r.is ∙ sym (append_assoc texts r.done (r.text ∷ r.rest));
    is_one = r.is_one;
    inside = r.inside;
    refused = r.refused;
    ran = all_then g texts r.done old mid r.before ran r.ran;
    begun = kept_then (state g old) (state g mid) (state g r.before) kept r.begun;
    reached = survives_both (state g old) (state g mid) (state g r.before) survives r.reached;
    left = r.left;
  }

  -- each error of texts that follow others
  pub errs_inside : {T : Type 0} (texts more : List (List ℕ × Row)) (old mid new : Held S) (r : Result T Error) →
      RanAll g texts old mid → StaysInside (state g old) (state g mid) (Ok tt) →
      Survives (state g old) (state g mid) (λ _. ⊥) → IfErr r (RefusedInside g more mid new) →
      IfErr r (RefusedInside g (texts ++ more) old new)
  errs_inside texts more old mid new r ran inside survives h =
      err_then r (RefusedInside g more mid new) (RefusedInside g (texts ++ more) old new) h
      (λ e it. inside_after texts more old mid new e ran (kept_inside (state g old) (state g mid) inside) survives it)

  -- texts of a call ran, and then some more
  pub both_ran : {T : Type 0} (texts more : List (List ℕ × Row)) (old mid new : Held S) (r : Result T Error) →
      RanAll g texts old mid → OnOk r (RanAll g more mid new) → OnOk r (RanAll g (texts ++ more) old new)
  both_ran texts more old mid new r ran h =
      on_then r (RanAll g more mid new) (RanAll g (texts ++ more) old new) h
      (λ it. all_then g texts more old mid new ran it)

  -- a text was refused in a transaction that began with the call, where nothing was under way
  pub refused_begun : {W : List (List ℕ × Row)} (old last new : Held S) (e : Error) →
      (IsTrue (state g old).is_open → (state g old).now ≡ (state g old).committed) →
      RefusedInside g W (record old { in_transaction = true }) last e →
      Survives (state g last) (state g new) (λ _. ⊥) → RefusedOf g W old new e
  refused_begun {W} old last new e settled r survives = record {
    sql = r.text.0;
    params = r.text.1;
    before = r.before;
    after = r.after;
    refused = inr (inr (inl (
      r.is_one,
      r.inside,
      r.refused,
      record { done = r.done; rest = r.rest; is = r.is; ran = on_begun g r.done old r.before settled r.ran },
    )));
    begun = record { was_open = r.begun.was_open; committed = r.begun.committed };
    reached = survives_begin g old (state g r.before) _ r.reached;
    left = survives_both (state g r.after) (state g last) (state g new) r.left survives;
  }

  -- the commit of a transaction that began with the call was refused
  pub commit_refused : (W : List (List ℕ × Row)) → WritesSome W → (old last end : Held S) (e : Error) →
      (IsTrue (state g old).is_open → (state g old).now ≡ (state g old).committed) →
      RanAll g W (record old { in_transaction = true }) last →
      StaysInside (state g (record old { in_transaction = true })) (state g last) (Ok tt) →
      Survives (state g (record old { in_transaction = true })) (state g last) (λ _. ⊥) →
      FailsToCommit (state g last) (state g end) e → RefusedOf g W old end e
  commit_refused W some old last end e settled ran inside survives fails =
      let begun : Held S = record old { in_transaction = true } in
      let kept = kept_inside (state g begun) (state g last) inside in
      record {
        sql = [];
        params = [];
        before = last;
        after = end;
        refused = inr (inr (inr (some, inside.mode, fails, on_begun g W old last settled ran)));
        begun = record { was_open = kept.was_open; committed = kept.committed };
        reached = survives_begin g old (state g last) _ survives;
        left = survives_self (state g end);
      }

  -- what a keeper calls a fault has the cause of the refusal
  pub cause_of : (W : List (List ℕ × Row)) (old new : Held S) (f : KeepFault) (e : Error) →
      ((f ≡ NoMemory) ↔ (e ≡ SqliteFailure OutOfMemory)) → RefusedOf g W old new e → HasCauseOf g W old new f
  cause_of W old new Failed e both h = record {
    error = e;
    cause = λ memory. let bad : Failed ≡ NoMemory = both.1 memory in absurd (cc);
    refused = h;
  }
  cause_of W old new NoMemory e both h = subst (RefusedOf g W old new) (both.0 refl) h

  -- a failure has one
  pub failure_of : {T : Type 0} (W : List (List ℕ × Row)) (old new : Held S) (r : Result T KeepFault) →
      IfErr r (HasCauseOf g W old new) → r ≡ Err Failed → WasRefusedOf g W old new
  failure_of W old new (Ok x) h failed = absurd (cc)
  failure_of W old new (Err Failed) h failed = h
  failure_of W old new (Err NoMemory) h failed = absurd (cc)

  -- and some call was refused
  pub put_refused : (W : List (List ℕ × Row)) (old new : Held S) → WasRefusedOf g W old new → WasRefused g
  put_refused W old new h = record {
    texts = W;
    old = old;
    new = new;
    refused = h;
  }

  -- so of a call that writes nothing
  pub was_refused : (old new : Held S) → WasRefusedIn g old new → WasRefused g
  was_refused old new h = put_refused [] old new h
