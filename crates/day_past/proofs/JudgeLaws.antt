-- A history's line behind those before it.
use Rattle.std.proofs.Common.{◌≡◌, ℕ, ◌<◌, ◌≤◌, List, [], ◌∷◌, ◌++◌, length, Option, Some, None, Result, Ok, Err}
use Rattle.std.proofs.Common.{IfNone, refl, sym, ap, subst, ◌∙◌, arith, append-nil}
use Rattle.std.specs.List.{cons_option}
use Rattle.std.proofs.lemmas.Bool.{cond-true, cond-false, lt-leb, le-leb}
use Rattle.std.proofs.lemmas.List.Elements.{filter_map-append}
use Rattle.road_time.specs.declared.day.Limits.{Limits}
use Rattle.road_time.specs.declared.day.SpentRow.{SpentRow}
use Rattle.road_time.specs.Lines.{without_cr}
use Rattle.road_time.specs.Form.{Many}
use Rattle.keep_office.specs.PastReads.{PastFault, OfLine, Twice, past_form, past_formed, past_amounts, past_fault}
use Rattle.keep_office.specs.PastReads.{fault_of_past}
use Rattle.day_past.specs.declared.outcomes.PastCause.{PastCause}
use Rattle.day_past.specs.declared.outcomes.PastCause.TheVariants as causes
use Rattle.day_past.specs.declared.amounts.Amounts.{Amounts}
use Rattle.day_past.specs.declared.judging.PastStop.{PastStop}
use Rattle.day_past.specs.declared.judging.PastStop.TheVariants.{Row, ReadFault, NoMemory}
use Rattle.day_past.specs.Causes.{IsCause, ReadsRow}
use Rattle.day_past.specs.Rows.{HasRows}
use Rattle.day_past.specs.Readings.{GathersRows, TakesRow, StopsTwice, JudgesRow}

-- a line more
rows_push : (base : ℕ) (before : List (List ℕ)) (line : List ℕ) →
    past_amounts base (before ++ line ∷ []) ≡ past_amounts base before ++ cons_option
    (past_formed (past_form base (without_cr line))) []
rows_push base before line = filter_map-append (λ l. past_formed (past_form base (without_cr l))) before (line ∷ [])

module _ (base : ℕ) (limits : Limits) (before : List (List ℕ)) (line : List ℕ) where
  -- a line that is not long and not too many is judged by its form
  fault_short : length line ≤ 200 → length before < limits.past →
      past_fault base limits before line ≡ fault_of_past (past_amounts base before) (past_form base (without_cr line))
  fault_short short few = cond-false _ _ _ (lt-leb 201 (length line) (omega arith))
      ∙ cond-false _ _ _ (lt-leb limits.past (length before) few)

  -- a line above the limit is one too many
  fault_many : length line ≤ 200 → limits.past ≤ length before →
      past_fault base limits before line ≡ Some (OfLine (Many limits.past))
  fault_many short many = cond-false _ _ _ (lt-leb 201 (length line) (omega arith))
      ∙ cond-true _ _ _ (le-leb limits.past (length before) many)

-- why a line has no amount
err_row : (r : Result (Option SpentRow) PastFault) (cause : PastCause) → ReadsRow r (Err cause) → (f : PastFault)
    × (r ≡ Err f) × IsCause f cause
err_row (Ok o) cause h = absurd h
err_row (Err f) cause h = (f, refl, h)

-- the amount that a line has
ok_row : (r : Result (Option SpentRow) PastFault) (o : Option SpentRow) → ReadsRow r (Ok o) → r ≡ Ok o
ok_row (Ok p) o h = ap Ok (sym h)
ok_row (Err f) o h = absurd h

-- an amount more
pub gathered : (stop : Option PastStop) (base : ℕ) (r : SpentRow) (old new : Amounts) →
    ((rows : List SpentRow) → HasRows old base rows → TakesRow stop base rows r new) →
    IfNone stop (GathersRows old base → GathersRows new base)
gathered None base r old new t = λ g. (g.0 ++ r ∷ [], (t g.0 g.1).1)
gathered (Some stop) base r old new t = tt

module _ (base number : ℕ) (limits : Limits) (line : List ℕ) (old new : Amounts) (short : length line ≤ 200) where
  -- a line above the limit
  pub many_judged : limits.past < number →
      JudgesRow (Some (Row number (causes.Many limits.past))) base limits number line old new
  many_judged many = (
    refl,
    λ before size h.
        (OfLine (Many limits.past), fault_many base limits before line short (omega (arith, size, many)), refl),
  )

  -- a line that is no amount
  pub refused_judged : (cause : PastCause) → number ≤ limits.past →
      ReadsRow (past_form base (without_cr line)) (Err cause) →
      JudgesRow (Some (Row number cause)) base limits number line old new
  refused_judged cause few h =
      let f = err_row (past_form base (without_cr line)) cause h in (
        refl,
        λ before size g. (
          f.0,
          fault_short base limits before line short (omega (arith, size, few))
              ∙ ap (fault_of_past (past_amounts base before)) f.1,
          f.2,
        ),
      )

  -- a line without an amount
  pub empty_judged : new ≡ old → number ≤ limits.past → ReadsRow (past_form base (without_cr line)) (Ok None) →
      JudgesRow None base limits number line old new
  empty_judged same few h = λ before size g. (
      let none = ok_row (past_form base (without_cr line)) None h in (
        fault_short base limits before line short (omega (arith, size, few))
            ∙ ap (fault_of_past (past_amounts base before)) none,
        let rows : past_amounts base (before ++ line ∷ []) ≡ past_amounts base before = rows_push base before line
            ∙ ap (λ r. past_amounts base before ++ cons_option (past_formed r) []) none
            ∙ append-nil (past_amounts base before) in
            subst (λ (a : Amounts). HasRows a base (past_amounts base (before ++ line ∷ []))) (sym same)
            (subst (HasRows old base) (sym rows) g),
      ))

  -- a line with an amount
  pub row_judged : (r : SpentRow) (stop : Option PastStop) → number ≤ limits.past →
      ReadsRow (past_form base (without_cr line)) (Ok (Some r)) → StopsTwice number stop
      → ((rows : List SpentRow) → HasRows old base rows → TakesRow stop base rows r new) →
      JudgesRow stop base limits number line old new
  row_judged r None few h s t = λ before size g. (
      let some = ok_row (past_form base (without_cr line)) (Some r) h in
      let taken = t (past_amounts base before) g in (
        fault_short base limits before line short (omega (arith, size, few))
            ∙ ap (fault_of_past (past_amounts base before)) some ∙ cond-false _ _ _ taken.0,
        let rows : past_amounts base (before ++ line ∷ []) ≡ past_amounts base before ++ r ∷ [] =
            rows_push base before line
            ∙ ap (λ x. past_amounts base before ++ cons_option (past_formed x) []) some in
            subst (HasRows new base) (sym rows) taken.1,
      ))
  row_judged r (Some (Row n cause)) few h s t = (
    s.0,
    λ before size g. (
        let some = ok_row (past_form base (without_cr line)) (Some r) h in
        let taken = t (past_amounts base before) g in (
          Twice,
          fault_short base limits before line short (omega (arith, size, few))
              ∙ ap (fault_of_past (past_amounts base before)) some ∙ cond-true _ _ _ taken,
          s.1,
        )),
  )
  row_judged r (Some ReadFault) few h s t = absurd s
  row_judged r (Some NoMemory) few h s t = tt
