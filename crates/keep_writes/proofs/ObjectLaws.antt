-- What a look at the texts of a database shows.
use Rattle.std.proofs.Common.{◌≡◌, ◌≤◌, ◌<◌, ℕ, true, Result, Ok, Err, IfOk, OnOk, List, [], ◌∷◌, length, get_or}
use Rattle.std.proofs.Common.{refl, sym, ap, ◌∙◌, arith}
use Rattle.sqlite_value.specs.Order.{Row, column}
use Rattle.sqlite_value.specs.declared.value.Value.{Value}
use Rattle.sqlite_value.specs.declared.value.Value.TheVariants.{Text}
use Rattle.sqlite_tied.specs.Compute.{everything}
use Rattle.sqlite_resolve.specs.Compile.{first}
use Rattle.sqlite.specs.declared.error.Error.{Error}
use Rattle.sqlite.specs.State.{State, IsUnchanged, Shown}
use Rattle.keep_tables.specs.Asks.{is_ask_text}
use Rattle.keep_tables.proofs.AskLaws.{quiet, asked_changes_nothing}
use Rattle.keep_writes.specs.Objects.{list_texts, Lists}

-- the text asks
pub list_texts_asks : is_ask_text (first list_texts) ≡ true
unfolding everything
list_texts_asks = refl

-- what it shows is listed
shown_lists : (old new : State) (rows : List Row) → Shown list_texts [] old new rows → Lists old.now rows
unfolding Shown
shown_lists old new rows h =
    let bare = quiet old.now.schema list_texts list_texts_asks h.0 h.1.is in
    let it = rw bare at h.2 in
    record { compiled = h.0; is = h.1.is; moment = h.1.now; source = it.0; from = it.1; shown = it.2 }

-- whatever is answered
pub answer_lists : {X : Type 0} (rows_in : X → List Row) (old new : State) (r : Result X Error) →
    IfOk r (λ x. Shown list_texts [] old new (rows_in x)) → IfOk r (λ x. Lists old.now (rows_in x))
answer_lists rows_in old new (Ok x) shown = shown_lists old new (rows_in x) shown
answer_lists rows_in old new (Err e) shown = tt

-- and changes nothing
pub answer_same : {X : Type 0} (rows_in : X → List Row) (old new : State) (r : Result X Error) →
    IfOk r (λ x. Shown list_texts [] old new (rows_in x)) → OnOk r (IsUnchanged old new)
answer_same rows_in old new (Ok x) shown =
    asked_changes_nothing list_texts [] old new (rows_in x) list_texts_asks shown
answer_same rows_in old new (Err e) shown = tt

-- a row of one value is that value
pub value_alone : (row : Row) (v : Value) → length row ≡ 1 → column row 0 ≡ v → row ≡ v ∷ []
value_alone [] v one is = absurd (omega (arith, one))
value_alone (w ∷ []) v one is = ap (λ x. x ∷ []) is
value_alone (w ∷ x ∷ ws) v one is = absurd (omega (arith, one))

-- three rows
pub three_rows : (rows : List Row) (a b c x y z : Row) → 3 ≤ length rows → length rows < 4 → a ≡ get_or rows 0 a →
    b ≡ get_or rows 1 b → c ≡ get_or rows 2 c → a ≡ x → b ≡ y → c ≡ z → rows ≡ x ∷ y ∷ z ∷ []
three_rows [] a b c x y z some few p q r u v w = absurd (omega (arith, some))
three_rows (k ∷ []) a b c x y z some few p q r u v w = absurd (omega (arith, some))
three_rows (k ∷ l ∷ []) a b c x y z some few p q r u v w = absurd (omega (arith, some))
three_rows (k ∷ l ∷ m ∷ []) a b c x y z some few p q r u v w =
    rw (sym p ∙ u, sym q ∙ v, sym r ∙ w) refl
three_rows (k ∷ l ∷ m ∷ n ∷ more) a b c x y z some few p q r u v w = absurd (omega (arith, few))

-- texts that are stored as the same value are the same
pub same_bytes : (s t : List ℕ) → ◌≡◌ {A = Value} (Text s) (Text t) → s ≡ t
same_bytes s t is = cc
