-- Why a line of a history is refused, as the code says it.
use Rattle.std.specs.Prelude.{ℕ, ℤ, ◌≡◌, List, ◌++◌, codes, Option, Some, None, Result, Ok, Err}
use Rattle.std.specs.Fmt.{decimal}
use Rattle.road_time.specs.declared.day.SpentRow.{SpentRow}
use Rattle.road_time.specs.Form.{Long, Many, Fields, Number, Range, Late, TooOften, Vehicles}
use Rattle.keep_office.specs.PastReads.{PastFault, OfLine, Twice}
use Rattle.day_past.specs.declared.outcomes.PastCause.{PastCause}
use Rattle.day_past.specs.declared.outcomes.PastCause.TheVariants as causes

-- the text of a cause, as it is printed
abbrev pub past_cause_text : PastCause → List ℕ
past_cause_text causes.Long = codes "long"
past_cause_text (causes.Many limit) = codes "many " ++ decimal limit
past_cause_text (causes.Fields count) = codes "fields " ++ decimal count
past_cause_text (causes.Number field) = codes "number " ++ decimal field
past_cause_text (causes.Range field) = codes "range " ++ decimal field
past_cause_text causes.Twice = codes "twice"

-- a fault as the code says it; the faults of a day's line alone are not among a history's
abbrev pub IsCause : PastFault → PastCause → Type 0
IsCause (OfLine Long) cause = cause ≡ causes.Long
IsCause (OfLine (Many n)) cause = cause ≡ causes.Many n
IsCause (OfLine (Fields n)) cause = cause ≡ causes.Fields n
IsCause (OfLine (Number n)) cause = cause ≡ causes.Number n
IsCause (OfLine (Range n)) cause = cause ≡ causes.Range n
IsCause (OfLine (Late a b)) cause = ⊥
IsCause (OfLine (TooOften a b)) cause = ⊥
IsCause (OfLine (Vehicles n)) cause = ⊥
IsCause Twice cause = cause ≡ causes.Twice

-- the same as a value; what is no cause of a history's line stands as the last one, and no line has it
abbrev pub past_cause_of : PastFault → PastCause
past_cause_of (OfLine Long) = causes.Long
past_cause_of (OfLine (Many n)) = causes.Many n
past_cause_of (OfLine (Fields n)) = causes.Fields n
past_cause_of (OfLine (Number n)) = causes.Number n
past_cause_of (OfLine (Range n)) = causes.Range n
past_cause_of (OfLine (Late a b)) = causes.Twice
past_cause_of (OfLine (TooOften a b)) = causes.Twice
past_cause_of (OfLine (Vehicles n)) = causes.Twice
past_cause_of Twice = causes.Twice

-- the amount of a line, or its fault
abbrev pub ReadsRow : Result (Option SpentRow) PastFault → Result (Option SpentRow) PastCause → Type 0
ReadsRow (Ok o) (Ok p) = p ≡ o
ReadsRow (Ok o) (Err cause) = ⊥
ReadsRow (Err fault) (Ok p) = ⊥
ReadsRow (Err fault) (Err cause) = IsCause fault cause

-- the numbers, unless a field is none
abbrev pub four_numbers : Option ℕ → List ℤ → Result (List ℤ) PastCause
four_numbers (Some n) zs = Err (causes.Number n)
four_numbers None zs = Ok zs
