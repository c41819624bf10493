-- All kept days, found one by one.
use Rattle.std.specs.Prelude.{ℕ, nat_lt, List, [], ◌∷◌, Option, Some, None}
use Rattle.std.specs.List.{filter}
use Rattle.keep_office.specs.declared.kept.DayRecord.{DayRecord}
use Rattle.keep_office.specs.declared.kept.PastRecord.{PastRecord}

-- the first day that may be kept: the base of the history, else 1
abbrev pub first_day : Option PastRecord → ℕ
first_day None = 1
first_day (Some p) = p.base

-- the records of the days below one
abbrev pub days_below : ℕ → List DayRecord → List DayRecord
days_below day days = filter (λ r. nat_lt r.day day) days

-- a record, or none, as a list
abbrev pub as_list : Option DayRecord → List DayRecord
as_list None = []
as_list (Some r) = r ∷ []
