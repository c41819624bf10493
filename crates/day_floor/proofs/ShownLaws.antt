-- what is shown is the board of all operations, once a day began
use Rattle.std.proofs.Common.{◌≡◌, ℕ, ◌≤◌, ◌⊎◌, inl, inr, List, [], ◌∷◌, ◌++◌, Option, Some, None, refl, sym, ap, subst}
use Rattle.std.proofs.Common.{◌∙◌, le_refl, arith, ⊎_elim}
use Rattle.std.specs.List.{fold}
use Rattle.std.proofs.lemmas.List.Sums.{fold-append}
use Rattle.day_floor.specs.Operations.{Operation, Begin, Step}
use Rattle.day_floor.specs.Boards.{BoardState, blank, board_with, board_after, all_accounts}
use Rattle.day_floor.specs.Shown.{shown_with, shown_by, shown_after, board_on}

-- once a day began, each operation counts
some_shown : (ops : List Operation) (b : BoardState) → fold shown_with (Some b) ops ≡ Some (fold board_with b ops)
some_shown [] b = refl
some_shown (Begin n ∷ ops) b = some_shown ops (board_with b (Begin n))
some_shown (Step cs mark ∷ ops) b = some_shown ops (board_with b (Step cs mark))

-- nothing is shown, or the board of all operations, whatever was there before
none_or : (ops : List Operation) (b : BoardState) → (fold shown_with None ops ≡ None)
    ⊎ (fold shown_with None ops ≡ Some (fold board_with b ops))
none_or [] b = inl refl
none_or (Begin n ∷ ops) b = inr (some_shown ops (board_with b (Begin n)))
none_or (Step cs mark ∷ ops) b = none_or ops (board_with b (Step cs mark))

-- where a day began, the board of all operations is shown
pub begun_shown : (earlier steps : List Operation) (n : ℕ) →
    shown_by (earlier ++ Begin n ∷ steps) ≡ Some (board_after (earlier ++ Begin n ∷ steps))
begun_shown earlier steps n =
    fold-append shown_with None earlier (Begin n ∷ steps)
    ∙ (some_shown steps (board_with blank (Begin n))
    ∙ ap Some (sym (fold-append board_with blank earlier (Begin n ∷ steps))))

-- no more is shown than all steps come to
pub shown_few : (ops : List Operation) → all_accounts (shown_after ops) ≤ all_accounts (board_after ops)
shown_few ops =
    ⊎_elim (λ (e : shown_by ops ≡ None). subst
    (λ (s : Option BoardState). all_accounts (board_on s) ≤ all_accounts (board_after ops)) (sym e) (omega arith))
    (λ (e : shown_by ops ≡ Some (board_after ops)). subst
    (λ (s : Option BoardState). all_accounts (board_on s) ≤ all_accounts (board_after ops)) (sym e)
    (le_refl (all_accounts (board_after ops))))
    (none_or ops blank)
