-- One line, judged by its length, its place and its form.
use Rattle.std.proofs.Common.{◌≡◌, ℕ, ◌+◌, ◌<◌, ◌≤◌, Bool, true, false, nat_le, nat_lt, List, [], ◌∷◌, ◌++◌, length}
use Rattle.std.proofs.Common.{take}
use Rattle.std.proofs.Common.{Option, Some, None, Result, Ok, Err, refl, sym, ap, subst, ◌∙◌, arith}
use Rattle.std.specs.Option.{option_map}
use Rattle.std.specs.List.{cons_option}
use Rattle.std.proofs.lemmas.Bool.{cond-true, cond-false, lt-ltb, le-ltb, le-leb, lt-leb}
use Rattle.std.proofs.lemmas.List.{append-nil}
use Rattle.road_time.specs.declared.road.Tuple.{Tuple}
use Rattle.road_time.specs.declared.day.Limits.{Limits}
use Rattle.road_time.specs.Lines.{without_cr}
use Rattle.road_time.specs.Form.{Fault, Long, Many, form}
use Rattle.road_time.specs.Reads.{line_fault, fault_of_form, formed, tuples_of}
use Rattle.road_time.proofs.ReadLaws.{tuples_push}
use Rattle.tuples_text.specs.declared.cause.Cause.{Cause}
use Rattle.tuples_text.specs.declared.cause.Cause.TheVariants as causes
use Rattle.tuples_text.specs.Causes.{cause_of, reader_answer}
use Rattle.tuples_text.specs.Gates.{GateState, StandsFor}
use Rattle.day_reading.specs.Checked.{Checked, checked_by}
use Rattle.day_reading.specs.Checking.{Admits, Judged}

-- what the reader answers well is the form
pub form_of_ok : (r : Result (Option Tuple) Fault) (o : Option Tuple) → reader_answer r ≡ Ok o → r ≡ Ok o
form_of_ok (Ok x) o e = let same : x ≡ o = cc in ap Ok same
form_of_ok (Err f) o e = cc

-- and what it refuses is a fault of form
form_of_err : (r : Result (Option Tuple) Fault) (cause : Cause) → reader_answer r ≡ Err cause → (f : Fault) × (r ≡ Err f)
    × (cause_of f ≡ cause)
form_of_err (Ok x) cause e = let bad : ⊥ = cc in absurd bad
form_of_err (Err f) cause e = (f, refl, cc)

module _ (limits : Limits) (late : ℕ) (c : Checked) (line : List ℕ) (gate : GateState) where
  -- a line that is refused changes nothing
  pub refused_is : (fault : Fault) (cause : Cause) → line_fault limits late c.kept line ≡ Some fault →
      cause_of fault ≡ cause → StandsFor gate limits late (tuples_of c.kept) → Judged limits late c line (Some cause) gate
  refused_is fault cause e same stands = record {
    cause_is = sym (ap (option_map cause_of) e ∙ ap (λ k. Some k) same);
    gate_is = subst (λ o. StandsFor gate limits late (tuples_of (checked_by o c line).kept)) (sym e) stands;
  }

  -- of one that is good, its tuple is let in
  pub good_is : line_fault limits late c.kept line ≡ None →
      StandsFor gate limits late (tuples_of (c.kept ++ line ∷ [])) → Judged limits late c line None gate
  good_is e stands = record {
    cause_is = sym (ap (option_map cause_of) e);
    gate_is = subst (λ o. StandsFor gate limits late (tuples_of (checked_by o c line).kept)) (sym e) stands;
  }

  pub long_is : 200 < length line → StandsFor gate limits late (tuples_of c.kept) →
      Judged limits late c line (Some causes.Long) gate
  long_is long stands = refused_is Long causes.Long (cond-true _ _ _ (lt-ltb 200 (length line) long)) refl stands

  pub many_is : length line ≤ 200 → limits.lines ≤ length c.kept → StandsFor gate limits late (tuples_of c.kept) →
      Judged limits late c line (Some (causes.Many limits.lines)) gate
  many_is short many stands = refused_is (Many limits.lines) (causes.Many limits.lines)
      (cond-false _ _ _ (le-ltb 200 (length line) short)
      ∙ cond-true _ _ _ (le-leb limits.lines (length c.kept) many)) refl stands

  module _ (short : length line ≤ 200) (few : length c.kept < limits.lines) where
    -- a line that is neither long nor one too many is judged by its form
    fault_is : (r : Result (Option Tuple) Fault) → form (without_cr line) ≡ r →
        line_fault limits late c.kept line ≡ fault_of_form limits late (tuples_of c.kept) r
    fault_is r e =
        cond-false _ _ _ (le-ltb 200 (length line) short)
        ∙ cond-false _ _ _ (lt-leb limits.lines (length c.kept) few)
        ∙ ap (fault_of_form limits late (tuples_of c.kept)) e

    more_is : (r : Result (Option Tuple) Fault) → form (without_cr line) ≡ r →
        tuples_of (c.kept ++ line ∷ []) ≡ tuples_of c.kept ++ cons_option (formed r) []
    more_is r e = tuples_push c.kept line ∙ ap (λ f. tuples_of c.kept ++ cons_option (formed f) []) e

    -- an empty line
    pub none_is : form (without_cr line) ≡ Ok None → StandsFor gate limits late (tuples_of c.kept) →
        Judged limits late c line None gate
    none_is e stands = good_is (fault_is (Ok None) e)
        (subst (λ ys. StandsFor gate limits late ys) (sym (more_is (Ok None) e ∙ append-nil (tuples_of c.kept))) stands)

    -- a line that is refused for its form
    pub form_is : (cause : Cause) → reader_answer (form (without_cr line)) ≡ Err cause →
        StandsFor gate limits late (tuples_of c.kept) → Judged limits late c line (Some cause) gate
    form_is cause e stands =
        let f = form_of_err (form (without_cr line)) cause e in
        refused_is f.0 cause (fault_is (Err f.0) f.1) f.2 stands

    -- a line with a tuple
    pub tuple_is : (x : Tuple) (cause : Option Cause) → form (without_cr line) ≡ Ok (Some x) →
        Admits limits late (tuples_of c.kept) x cause gate → Judged limits late c line cause gate
    tuple_is x None e h = good_is (fault_is (Ok (Some x)) e ∙ h.0)
        (subst (λ ys. StandsFor gate limits late ys) (sym (more_is (Ok (Some x)) e)) h.1)
    tuple_is x (Some cause) e h = record {
      cause_is = sym (ap (option_map cause_of) (fault_is (Ok (Some x)) e) ∙ h.0);
      gate_is = kept_gate (line_fault limits late c.kept line) (ap (option_map cause_of) (fault_is (Ok (Some x)) e) ∙ h.0);
    }
      where
        kept_gate : (o : Option Fault) → option_map cause_of o ≡ Some cause →
            StandsFor gate limits late (tuples_of (checked_by o c line).kept)
        kept_gate None bad = absurd (cc bad)
        kept_gate (Some f) same = h.1
