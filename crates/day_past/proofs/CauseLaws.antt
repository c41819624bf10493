-- The faults of a history's lines.
use Rattle.std.proofs.Common.{ℕ, ℤ, ◌==◌, nat_lt, nat_le, cond, List, [], ◌∷◌, ◌++◌, length, Option, Some, None, Result}
use Rattle.std.proofs.Common.{Ok, Err, refl, subst}
use Rattle.std.specs.List.{filter_map, list_any}
use Rattle.std.proofs.lemmas.Bool.{cond_both}
use Rattle.road_time.specs.declared.day.Limits.{Limits}
use Rattle.road_time.specs.declared.day.SpentRow.{SpentRow}
use Rattle.road_time.specs.Lines.{lines_of, without_cr}
use Rattle.road_time.specs.Numbers.{number_of, fields_of_text}
use Rattle.road_time.specs.Form.{Long, Many, Fields, first_odd, first_out}
use Rattle.road_time.specs.History.{is_row}
use Rattle.keep_office.specs.PastReads.{PastFault, OfLine, Twice, PastReading, past_uses, past_in_ranges}
use Rattle.keep_office.specs.PastReads.{past_of_fields}
use Rattle.keep_office.specs.PastReads.{past_form, past_amounts, fault_of_past, past_fault, past_at, past_after}
use Rattle.day_past.specs.Causes.{IsCause, past_cause_of}
use Rattle.day_past.specs.Laws.{CausesLaw}

-- a fault that a history's line may have
abbrev IsPast : PastFault → Type 0
IsPast fault = IsCause fault (past_cause_of fault)

-- the fault of an answer, if it is one, is such a fault
abbrev ErrIsPast : Result (Option SpentRow) PastFault → Type 0
ErrIsPast (Ok o) = Unit {0}
ErrIsPast (Err fault) = IsPast fault

-- the same of a fault that there may be
abbrev SomeIsPast : Option PastFault → Type 0
SomeIsPast None = Unit {0}
SomeIsPast (Some fault) = IsPast fault

-- and of a refused line
abbrev RefusedIsPast : Option (ℕ × PastFault) → Type 0
RefusedIsPast None = Unit {0}
RefusedIsPast (Some refused) = IsPast refused.1

-- four numbers
ranges : (base : ℕ) (zs : List ℤ) (out : Option ℕ) → ErrIsPast (past_in_ranges base zs out)
ranges base zs None = tt
ranges base zs (Some n) = refl

-- four fields
fields : (base : ℕ) (texts : List (List ℕ)) (odd : Option ℕ) → ErrIsPast (past_of_fields base texts odd)
fields base texts None = (let zs = filter_map (number_of 10) texts in ranges base zs (first_out 1 past_uses zs))
fields base texts (Some n) = refl

-- a text
form : (base : ℕ) (text : List ℕ) → ErrIsPast (past_form base text)
form base [] = tt
form base (b ∷ bs) =
    let texts = fields_of_text (b ∷ bs) in
    cond_both (length texts == 4) (past_of_fields base texts (first_odd texts)) (Err (OfLine (Fields (length texts))))
    ErrIsPast (λ _. fields base texts (first_odd texts)) (λ _. refl)

-- a line of this form behind these amounts
by_form : (rows : List SpentRow) (r : Result (Option SpentRow) PastFault) → ErrIsPast r →
    SomeIsPast (fault_of_past rows r)
by_form rows (Err fault) h = h
by_form rows (Ok None) h = tt
by_form rows (Ok (Some r)) h = cond_both (list_any (is_row r.day r.vid r.xway) rows) (Some Twice) None SomeIsPast
    (λ _. refl) (λ _. tt)

-- a line behind those before it
of_line : (base : ℕ) (limits : Limits) (before : List (List ℕ)) (line : List ℕ) →
    SomeIsPast (past_fault base limits before line)
of_line base limits before line =
    let by = fault_of_past (past_amounts base before) (past_form base (without_cr line)) in
    let many = cond (nat_le limits.past (length before)) (Some (OfLine (Many limits.past))) by in
    cond_both (nat_lt 200 (length line)) (Some (OfLine Long)) many SomeIsPast (λ _. refl)
    (λ _. cond_both (nat_le limits.past (length before)) (Some (OfLine (Many limits.past))) by SomeIsPast (λ _. refl)
    (λ _. by_form (past_amounts base before) (past_form base (without_cr line)) (form base (without_cr line))))

-- the reading that ends at a line, or goes on
at_line : (base : ℕ) (before : List (List ℕ)) (fault : Option PastFault) (rest : PastReading) → SomeIsPast fault →
    RefusedIsPast rest.refused → RefusedIsPast (past_at base before fault rest).refused
at_line base before None rest h g = g
at_line base before (Some fault) rest h g = h

-- the reading of lines
after : (base : ℕ) (limits : Limits) (before lines : List (List ℕ)) →
    RefusedIsPast (past_after base limits before lines).refused
after base limits before [] = tt
after base limits before (l ∷ ls) =
    at_line base before (past_fault base limits before l) (past_after base limits (before ++ l ∷ []) ls)
    (of_line base limits before l) (after base limits (before ++ l ∷ []) ls)

-- the fault of a refused line is one that a history's line may have
pub causes_law : CausesLaw
causes_law base limits bytes line fault e = subst RefusedIsPast e (after base limits [] (lines_of bytes))
