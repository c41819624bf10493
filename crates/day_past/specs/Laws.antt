-- Laws of histories, which no code runs.
use Rattle.std.specs.Prelude.{◌≡◌, ℕ, List, Some}
use Rattle.road_time.specs.declared.day.Limits.{Limits}
use Rattle.keep_office.specs.PastReads.{PastFault, past_reads}
use Rattle.day_past.specs.Causes.{IsCause, past_cause_of}

-- the fault of a refused line is one that a history's line may have, and its cause says it
abbrev pub CausesLaw : Type 0
CausesLaw =
    (base : ℕ) (limits : Limits) (bytes : List ℕ) (line : ℕ) (fault : PastFault)
    → (past_reads bytes base limits).refused ≡ Some (line, fault) → IsCause fault (past_cause_of fault)
