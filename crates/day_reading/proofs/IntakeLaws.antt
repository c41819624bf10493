-- One line more of a day, by its form.
use Rattle.std.proofs.Common.{◌≡◌, ℕ, ◌+◌, ◌≤◌, List, [], ◌∷◌, ◌++◌, false, length, Option, Some, None, Result, Ok, Err}
use Rattle.std.proofs.Common.{refl, sym, ap, subst, ◌∙◌, arith}
use Rattle.std.specs.Option.{option_map}
use Rattle.std.specs.List.{cons_option}
use Rattle.std.proofs.lemmas.Bool.{cond-false, le-ltb, lt-leb}
use Rattle.std.proofs.lemmas.List.{append-nil}
use Rattle.road_time.specs.declared.road.Tuple.{Tuple}
use Rattle.road_time.specs.declared.day.Limits.{Limits}
use Rattle.road_time.specs.Lines.{without_cr}
use Rattle.road_time.specs.Form.{Fault, form}
use Rattle.road_time.specs.Reads.{line_fault, fault_of_form, formed, tuples_of}
use Rattle.road_time.proofs.ReadLaws.{tuples_push}
use Rattle.tuples_text.specs.declared.cause.Cause.{Cause}
use Rattle.tuples_text.specs.Causes.{reader_answer, cause_of}
use Rattle.tuples_text.specs.Gates.{GateState, StandsFor}
use Rattle.tuples_text.specs.Sorting.{Sorting, IsSorting}
use Rattle.day_reading.specs.declared.ending.Ending.{Ending}
use Rattle.day_reading.specs.declared.ending.Ending.TheVariants.{Whole, Stopped}
use Rattle.day_reading.specs.declared.ending.ReadEnd.TheVariants.{Refused, ReadFault, NoMemory}
use Rattle.day_reading.specs.Lines.{TakesTuple, TakesLine, refusal}

-- what the reader answers well is the form
pub form_of_ok : (r : Result (Option Tuple) Fault) (o : Option Tuple) → reader_answer r ≡ Ok o → r ≡ Ok o
form_of_ok (Ok x) o e = let same : x ≡ o = cc in ap Ok same
form_of_ok (Err f) o e = cc

-- and what it refuses is a fault of form
pub form_of_err : (r : Result (Option Tuple) Fault) (cause : Cause) → reader_answer r ≡ Err cause → (f : Fault) ×
    (r ≡ Err f)
    × (cause_of f ≡ cause)
form_of_err (Ok x) cause e = let bad : ⊥ = cc in absurd bad
form_of_err (Err f) cause e = (f, refl, cc)

module _ (limits : Limits) (late line : ℕ) (text : List ℕ) (short : length text ≤ 200)
    (within : line ≤ limits.lines) where
  -- a line that is neither long nor one too many is judged by its form
  fault_is : (before : List (List ℕ)) (r : Result (Option Tuple) Fault) → length before + 1 ≡ line →
      form (without_cr text) ≡ r → line_fault limits late before text ≡ fault_of_form limits late (tuples_of before) r
  fault_is before r size e =
      cond-false _ _ _ (le-ltb 200 (length text) short)
      ∙ cond-false _ _ _ (lt-leb limits.lines (length before) (omega (arith, size, within)))
      ∙ ap (fault_of_form limits late (tuples_of before)) e

  more_is : (before : List (List ℕ)) (r : Result (Option Tuple) Fault) → form (without_cr text) ≡ r →
      tuples_of (before ++ text ∷ []) ≡ tuples_of before ++ cons_option (formed r) []
  more_is before r e = tuples_push before text ∙ ap (λ f. tuples_of before ++ cons_option (formed f) []) e

  -- a line with a tuple
  pub line_of_tuple : (result : Option Ending) (x : Tuple) (gate gate' : GateState) (sorter sorter' : Sorting) →
      form (without_cr text) ≡ Ok (Some x)
      → TakesTuple limits late result line x gate gate' sorter sorter' →
      TakesLine limits late result line text gate gate' sorter sorter'
  line_of_tuple None x gate gate' sorter sorter' e h = λ before size stands.
      let t = h (tuples_of before) stands in
      let more = sym (more_is before (Ok (Some x)) e) in (
        fault_is before (Ok (Some x)) size e ∙ t.0,
        subst (λ ys. StandsFor gate' limits late ys) more t.1,
        λ taken is. subst (λ ys. IsSorting sorter' late ys taken false) more (t.2 taken is),
      )
  line_of_tuple (Some Whole) x gate gate' sorter sorter' e h = absurd h
  line_of_tuple (Some (Stopped (Refused n cause))) x gate gate' sorter sorter' e h = (
    h.0,
    h.1,
    λ before size stands. ap (option_map cause_of) (fault_is before (Ok (Some x)) size e)
        ∙ h.2 (tuples_of before) stands,
  )
  line_of_tuple (Some (Stopped ReadFault)) x gate gate' sorter sorter' e h = absurd h
  line_of_tuple (Some (Stopped NoMemory)) x gate gate' sorter sorter' e h = tt

  -- an empty line
  pub line_of_none : (gate : GateState) (sorter : Sorting) → form (without_cr text) ≡ Ok None →
      TakesLine limits late None line text gate gate sorter sorter
  line_of_none gate sorter e = λ before size stands.
      let same = sym (more_is before (Ok None) e ∙ append-nil (tuples_of before)) in (
        fault_is before (Ok None) size e,
        subst (λ ys. StandsFor gate limits late ys) same stands,
        λ taken is. subst (λ ys. IsSorting sorter late ys taken false) same is,
      )

  -- a line that is refused for its form
  pub line_of_err : (gate : GateState) (sorter : Sorting) (cause : Cause) →
      reader_answer (form (without_cr text)) ≡ Err cause →
      TakesLine limits late (Some (refusal line cause)) line text gate gate sorter sorter
  line_of_err gate sorter cause e =
      let f = form_of_err (form (without_cr text)) cause e in (
        refl,
        refl,
        λ before size stands. ap (option_map cause_of) (fault_is before (Err f.0) size f.1)
            ∙ ap (λ k. Some k) f.2,
      )
