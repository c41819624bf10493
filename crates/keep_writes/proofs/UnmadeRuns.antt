-- What the texts of the making of tables did, in their order, and where one was refused.
use Rattle.std.proofs.Common.{◌≡◌, ℕ, pos, List, [], ◌∷◌, ◌++◌, map, inl, inr, Ok, IsTrue, refl, sym, ap, subst, ◌∙◌}
use Rattle.std.proofs.lemmas.List.{append_assoc, map-append}
use Rattle.sqlite_keyed.proofs.ListLemmas.{all-append}
use Rattle.sqlite_value.specs.declared.value.Value.{Value}
use Rattle.sqlite_value.specs.declared.value.Value.TheVariants.{Int, Blob}
use Rattle.sqlite_value.specs.Order.{Row, column}
use Rattle.sqlite_trees.specs.declared.store.Store.{Ghosts}
use Rattle.sqlite.specs.declared.error.Error.{Error}
use Rattle.sqlite.specs.Held.{Held, state}
use Rattle.sqlite.specs.State.{KeepsCommit, Shown, Survives}
use Rattle.road_digest.specs.declared.digest.Digest.{Digest}
use Rattle.keep_office.specs.Kept.{seal_of}
use Rattle.keep_tables.specs.Steps.{StaysInside}
use Rattle.keep_tables.specs.Texts.{list_days, put_seal}
use Rattle.keep_tables.proofs.PutLaws.{survives_both}
use Rattle.keep_tables.proofs.StepLaws.{kept_then}
use Rattle.keep_writes.specs.Growth.{RanInside}
use Rattle.keep_writes.specs.Runs.{RanOne, IsText, RanAll}
use Rattle.keep_writes.specs.Unmade.{RefusesEach, HasNumber, row_seal, SealsEach, ShowsDays, SealsDays, MakesTables}
use Rattle.keep_writes.specs.Unmade.{RefusesSeals, EndsTables, EndsInside}
use Rattle.keep_writes.specs.Writes.{seal_text}
use Rattle.keep_writes.proofs.CauseLaws.{kept_self, survives_self, kept_inside}
use Rattle.keep_writes.proofs.RunLaws.{all_none, all_then}

module _ {S : Type 0} (g : Ghosts S) where
  -- a text without values ran
  pub text_done : (old new : Held S) (text : List ℕ) → IsTrue (state g old).in_transaction →
      RanInside text [] (state g old) (state g new) → RanOne g (IsText (text, [])) old new
  text_done old new text inside ran =
      record { sql = text; params = []; count = ran.0; written = (refl, refl); inside = inside; ran = ran.1 }

  -- the first of some texts are the first of more
  each_wider : (texts more : List (List ℕ × Row)) (old before after : Held S) (e : Error) →
      RefusesEach g texts old before after e → RefusesEach g (texts ++ more) old before after e
  each_wider texts more old before after e r = record {
    done = r.done;
    text = r.text;
    rest = r.rest ++ more;
    is = ap (λ (l : List (List ℕ × Row)). l ++ more) r.is ∙ append_assoc r.done (r.text ∷ r.rest) more;
    ran = r.ran;
    refused = r.refused;
  }

  -- a text was refused behind others
  each_after : (texts more : List (List ℕ × Row)) (old mid before after : Held S) (e : Error) → RanAll g texts old mid →
      RefusesEach g more mid before after e → RefusesEach g (texts ++ more) old before after e
  each_after texts more old mid before after e ran r = record {
    done = texts ++ r.done;
    text = r.text;
    rest = r.rest;
    is = ap (λ (l : List (List ℕ × Row)). texts ++ l) r.is ∙ sym (append_assoc texts r.done (r.text ∷ r.rest));
    ran = all_then g texts r.done old mid before ran r.ran;
    refused = r.refused;
  }

  -- days were shown behind others
  shows_after : (texts more : List (List ℕ × Row)) (rows : List Row) (old mid listed : Held S) →
      RanAll g texts old mid →
      ShowsDays g more rows mid listed → ShowsDays g (texts ++ more) rows old listed
  shows_after texts more rows old mid listed ran h =
      record { made = h.made; ran = all_then g texts more old mid h.made ran h.ran; shown = h.shown }

  -- they were sealed behind others
  pub seals_after : (texts more : List (List ℕ × Row)) (old mid new : Held S) → RanAll g texts old mid →
      SealsDays g more mid new → SealsDays g (texts ++ more) old new
  seals_after texts more old mid new ran h = record {
    rows = h.rows;
    listed = h.listed;
    shows = shows_after texts more h.rows old mid h.listed ran h.shows;
    ran = h.ran;
  }

  -- tables were made behind others
  pub makes_after : (texts more : List (List ℕ × Row)) (old mid new : Held S) → RanAll g texts old mid →
      MakesTables g more mid new → MakesTables g (texts ++ more) old new
  makes_after texts more old mid new ran h =
      record { last = h.last; seals = seals_after texts more old mid h.last ran h.seals; ran = h.ran }

  -- what ends the making ends it behind others
  ends_after : (texts more : List (List ℕ × Row)) (old mid before after : Held S) (e : Error) → RanAll g texts old mid →
      EndsTables g more mid before after e → EndsTables g (texts ++ more) old before after e
  ends_after texts more old mid before after e ran (inl h) = inl (each_after texts more old mid before after e ran h)
  ends_after texts more old mid before after e ran (inr (inl h)) =
      inr (inl (all_then g texts more old mid before ran h.0, h.1))
  ends_after texts more old mid before after e ran (inr (inr (inl h))) =
      inr (inr (inl (record {
        rows = h.rows;
        listed = h.listed;
        shows = shows_after texts more h.rows old mid h.listed ran h.shows;
        refused = h.refused;
      })))
  ends_after texts more old mid before after e ran (inr (inr (inr h))) =
      inr (inr (inr (seals_after texts more old mid before ran h.0, h.1)))

  -- within a transaction the call is the step
  pub step_now : (refuses : Held S → Held S → Held S → Error → Type 0) → (old new : Held S) (e : Error) →
      IsTrue (state g old).in_transaction → refuses old old new e → EndsInside g refuses old new e
  step_now refuses old new e inside h = record {
    before = old;
    after = new;
    inside = inside;
    refused = h;
    begun = kept_self (state g old);
    reached = survives_self (state g old);
    left = survives_self (state g new);
  }

  -- it comes behind what commits nothing
  pub step_after : (first second : Held S → Held S → Held S → Error → Type 0) → (old mid new : Held S) (e : Error) →
      ((before after : Held S) → first mid before after e → second old before after e) →
      KeepsCommit (state g old) (state g mid) → Survives (state g old) (state g mid) (λ _. ⊥) →
      EndsInside g first mid new e → EndsInside g second old new e
  step_after first second old mid new e more kept survives r = record {
    before = r.before;
    after = r.after;
    inside = r.inside;
    refused = more r.before r.after r.refused;
    begun = kept_then (state g old) (state g mid) (state g r.before) kept r.begun;
    reached = survives_both (state g old) (state g mid) (state g r.before) survives r.reached;
    left = r.left;
  }

  -- it comes behind steps that go on within a transaction
  pub behind_ends : (refuses : Held S → Held S → Held S → Error → Type 0) → (old mid new : Held S) (e : Error) →
      IsTrue (state g mid).in_transaction → StaysInside (state g old) (state g mid) (Ok tt) →
      Survives (state g old) (state g mid) (λ _. ⊥) → refuses old mid new e → EndsInside g refuses old new e
  behind_ends refuses old mid new e within inside survives h = record {
    before = mid;
    after = new;
    inside = within;
    refused = h;
    begun = kept_inside (state g old) (state g mid) inside;
    reached = survives;
    left = survives_self (state g new);
  }

  -- one of the first texts of the making was refused
  pub first_ends : (texts more : List (List ℕ × Row)) (old new : Held S) (e : Error) →
      EndsInside g (RefusesEach g texts) old new e → EndsInside g (EndsTables g (texts ++ more)) old new e
  first_ends texts more old new e r =
      step_after (RefusesEach g texts) (EndsTables g (texts ++ more)) old old new e
      (λ before after h. inl (each_wider texts more old before after e h)) (kept_self (state g old))
      (survives_self (state g old)) r

  -- the making ended behind its first texts
  pub then_ends : (texts more : List (List ℕ × Row)) (old mid new : Held S) (e : Error) → RanAll g texts old mid →
      StaysInside (state g old) (state g mid) (Ok tt) → Survives (state g old) (state g mid) (λ _. ⊥) →
      EndsInside g (EndsTables g more) mid new e → EndsInside g (EndsTables g (texts ++ more)) old new e
  then_ends texts more old mid new e ran inside survives r =
      step_after (EndsTables g more) (EndsTables g (texts ++ more)) old mid new e
      (λ before after h. ends_after texts more old mid before after e ran h)
      (kept_inside (state g old) (state g mid) inside) survives r

  -- none of them was sealed yet
  pub seals_none : (seal : Digest) (old : Held S) → SealsEach g seal [] old old
  seals_none seal old = record { numbered = tt; ran = all_none g old }

  -- one more day was sealed
  pub seals_next : (seal : Digest) (rows : List Row) (row : Row) (day : ℕ) (old mid new : Held S) →
      column row 0 ≡ Int (pos day) → SealsEach g seal rows old mid → RanAll g (seal_text day seal ∷ []) mid new →
      SealsEach g seal (rows ++ row ∷ []) old new
  seals_next seal rows row day old mid new number so_far one = record {
    numbered = all-append HasNumber rows (row ∷ []) so_far.numbered ((day, number), tt);
    ran = subst (λ (l : List (List ℕ × Row)). RanAll g l old new) (sym (map-append (row_seal seal) rows (row ∷ [])))
        (all_then g (map (row_seal seal) rows) (row_seal seal row ∷ []) old mid new so_far.ran
        (subst (λ (v : Value). RanAll g ((put_seal, v ∷ Blob seal.bytes ∷ []) ∷ []) mid new) (sym number) one));
  }

  -- days were shown and sealed
  pub days_sealed : (rows : List Row) (old mid new : Held S) → Shown list_days [] (state g old) (state g mid) rows →
      SealsEach g (seal_of []) rows mid new → SealsDays g [] old new
  days_sealed rows old mid new shown ran = record {
    rows = rows;
    listed = mid;
    shows = record { made = old; ran = all_none g old; shown = shown };
    ran = ran;
  }

  -- days were shown, and their seals failed
  pub seals_end : (rows : List Row) (old mid new : Held S) (e : Error) →
      Shown list_days [] (state g old) (state g mid) rows → KeepsCommit (state g old) (state g mid) →
      Survives (state g old) (state g mid) (λ _. ⊥) → EndsInside g (RefusesSeals g (seal_of []) rows) mid new e →
      EndsInside g (EndsTables g []) old new e
  seals_end rows old mid new e shown kept survives r =
      step_after (RefusesSeals g (seal_of []) rows) (EndsTables g []) old mid new e
      (λ before after h. inr (inr (inl (record {
        rows = rows;
        listed = mid;
        shows = record { made = old; ran = all_none g old; shown = shown };
        refused = h;
      })))) kept survives r
