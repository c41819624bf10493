-- one tuple more waits, and one less
use Rattle.std.proofs.Common.{◌≡◌, ℕ, ◌+◌, ◌≤◌, ◌<◌, false, List, [], ◌∷◌, refl, sym, ap, ◌∙◌, arith, nat_le}
use Rattle.std.specs.Map.{values_of}
use Rattle.std.specs.Ordering.{nat_cmp, ordering_then, match_ordering}
use Rattle.std.specs.declared.cmp.Ordering.{Ordering}
use Rattle.std.specs.declared.cmp.Ordering.TheVariants.{Less, Greater}
use Rattle.std.specs.BTreeMap.{insert_entry}
use Rattle.std.proofs.lemmas.Bool.{cond-true, cond-false, le-leb}
use Rattle.road_time.specs.declared.road.Tuple.{Tuple}
use Rattle.road_time.specs.Tuples.{time_of}
use Rattle.road_time.specs.Order.{placed}
use Rattle.road_time.proofs.NumberOrder.{order_cases}
use Rattle.tuples_text.specs.declared.waiting.WaitingTurn.{WaitingTurn}
use Rattle.tuples_text.specs.Turns.{Keyed}

-- turns are compared by Time, then by number
abbrev pub turn_cmp : WaitingTurn → WaitingTurn → Ordering
turn_cmp a b = ordering_then (nat_cmp a.time b.time) (nat_cmp a.number b.number)

module _ (x : Tuple) (count : ℕ) where
  -- the turn of the next tuple that comes
  abbrev pub turn : WaitingTurn
  turn = record { time = time_of x; number = count }

  -- where the new tuple goes, after an entry or before it
  choose : (e : WaitingTurn × Tuple) → e.0.time ≡ time_of e.1 → e.0.number < count → (Q : Ordering → Type 0) →
      (time_of x < time_of e.1 → Q Less) → (time_of e.1 ≤ time_of x → Q Greater) → Q (turn_cmp turn e.0)
  choose e is less Q f g =
      order_cases (time_of x) e.0.time (λ o. Q (ordering_then o (nat_cmp count e.0.number)))
      (λ l. f (omega (arith, is, l)))
      (λ i. order_cases count e.0.number Q (λ l. absurd (omega (arith, l, less))) (λ j. absurd (omega (arith, j, less)))
      (λ _. g (omega (arith, is, i))))
      (λ l. g (omega (arith, is, l)))

  -- a new tuple stands behind those that are not later
  pub insert_values : (es : List (WaitingTurn × Tuple)) → Keyed count es →
      values_of (insert_entry turn_cmp es turn x) ≡ placed (values_of es) x
  insert_values [] h = refl
  insert_values (e ∷ es) h =
      choose e h.0.0 h.0.1
      (λ o. values_of (match_ordering o ((turn, x) ∷ e ∷ es) ((e.0, x) ∷ es) (e ∷ insert_entry turn_cmp es turn x))
      ≡ placed (e.1 ∷ values_of es) x)
      (λ l. sym (cond-false (nat_le (time_of e.1) (time_of x)) _ _ (over (time_of e.1) (time_of x) l)))
      (λ l. ap (λ vs. e.1 ∷ vs) (insert_values es h.1)
      ∙ sym (cond-true (nat_le (time_of e.1) (time_of x)) _ _ (le-leb (time_of e.1) (time_of x) l)))
    where
      over : (a b : ℕ) → b < a → nat_le a b ≡ false
      over a b l = grind arith

  -- the numbers stay below the next one
  more : (es : List (WaitingTurn × Tuple)) → Keyed count es → Keyed (count + 1) es
  more [] h = tt
  more (e ∷ es) h = ((h.0.0, omega (arith, h.0.1)), more es h.1)

  -- the new tuple has its Time and its number
  pub insert_keyed : (es : List (WaitingTurn × Tuple)) → Keyed count es →
      Keyed (count + 1) (insert_entry turn_cmp es turn x)
  insert_keyed [] h = ((refl, omega arith), tt)
  insert_keyed (e ∷ es) h =
      choose e h.0.0 h.0.1
      (λ o. Keyed (count + 1)
      (match_ordering o ((turn, x) ∷ e ∷ es) ((e.0, x) ∷ es) (e ∷ insert_entry turn_cmp es turn x)))
      (λ _. ((refl, omega arith), more (e ∷ es) h)) (λ _. ((h.0.0, omega (arith, h.0.1)), insert_keyed es h.1))
