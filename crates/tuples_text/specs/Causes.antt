-- Why a line is refused, as the code says it, and what is printed of it.
use Rattle.std.specs.Prelude.{ℕ, ℤ, List, ◌++◌, codes, Option, Some, None, Result, Ok, Err}
use Rattle.std.specs.Fmt.{decimal}
use Rattle.road_time.specs.declared.road.Tuple.{Tuple}
use Rattle.road_time.specs.Form.{Fault, Long, Many, Fields, Number, Range, Late, TooOften, Vehicles}
use Rattle.tuples_text.specs.declared.cause.Cause.{Cause}
use Rattle.tuples_text.specs.declared.cause.Cause.TheVariants as causes

-- a fault as the code says it
abbrev pub cause_of : Fault → Cause
cause_of Long = causes.Long
cause_of (Many n) = causes.Many n
cause_of (Fields n) = causes.Fields n
cause_of (Number n) = causes.Number n
cause_of (Range n) = causes.Range n
cause_of (Late a b) = causes.Late a b
cause_of (TooOften a b) = causes.TooOften a b
cause_of (Vehicles n) = causes.Vehicles n

-- the text of a cause, as it is printed
abbrev pub cause_text : Cause → List ℕ
cause_text causes.Long = codes "long"
cause_text (causes.Many limit) = codes "many " ++ decimal limit
cause_text (causes.Fields count) = codes "fields " ++ decimal count
cause_text (causes.Number field) = codes "number " ++ decimal field
cause_text (causes.Range field) = codes "range " ++ decimal field
cause_text (causes.Late previous time) = codes "late " ++ decimal previous ++ codes " " ++ decimal time
cause_text (causes.TooOften vid minute) = codes "too-often " ++ decimal vid ++ codes " " ++ decimal minute
cause_text (causes.Vehicles limit) = codes "vehicles " ++ decimal limit

-- what the reader answers
abbrev pub reader_answer : Result (Option Tuple) Fault → Result (Option Tuple) Cause
reader_answer (Ok tuple) = Ok tuple
reader_answer (Err fault) = Err (cause_of fault)

-- the numbers, unless a field is none
abbrev pub numbered : Option ℕ → List ℤ → Result (List ℤ) Cause
numbered (Some n) zs = Err (causes.Number n)
numbered None zs = Ok zs
