-- worked rows of reading a history
use Rattle.std.proofs.Common.{◌≡◌, ℕ, List, [], ◌∷◌, ◌++◌, refl, Some, None}
use Rattle.std.specs.Prelude.{codes}
use Rattle.road_time.specs.declared.day.Limits.{Limits}
use Rattle.road_time.specs.declared.day.SpentRow.{SpentRow}
use Rattle.road_time.specs.Form.{Range, Fields, Many}
use Rattle.keep_office.specs.PastReads.{OfLine, Twice, past_reads, past_kept}

abbrev limits : Limits
limits = record { lines = 16000000; vehicles = 500000; backlog = 65536; past = 10000000 }

-- an amount of vehicle 7
abbrev amount : ℕ → ℕ → SpentRow
amount day tolls = record { day = day; vid = 7; xway = 0; tolls = tolls }

-- two lines, the second of an earlier day
abbrev two_lines : List ℕ
two_lines = codes "7,1,0,5" ++ 10 ∷ codes "7,69,0,28" ++ 10 ∷ []

two_read : (past_reads two_lines 100 limits).rows ≡ amount 99 5 ∷ amount 31 28 ∷ []
two_read = refl

two_whole : (past_reads two_lines 100 limits).refused ≡ None
two_whole = refl

two_kept : past_kept (amount 99 5 ∷ amount 31 28 ∷ []) ≡ amount 31 28 ∷ amount 99 5 ∷ []
two_kept = refl

none_kept : past_kept (amount 99 0 ∷ []) ≡ []
none_kept = refl

-- fields are numbers as in a day's lines, and an amount of zero counts too
twice : (past_reads (codes "7,1,0,0" ++ 10 ∷ codes "7,01,-0,5") 100 limits).refused ≡ Some (2, Twice)
twice = refl

too_early : (past_reads (codes "7,70,0,5") 100 limits).refused ≡ Some (1, OfLine (Range 2))
too_early = refl

three_fields : (past_reads (10 ∷ codes "7,69,0") 100 limits).refused ≡ Some (2, OfLine (Fields 3))
three_fields = refl

too_many : (past_reads (10 ∷ codes "7,69,0,1") 100 (record { lines = 1; vehicles = 1; backlog = 1; past = 1 })).refused
    ≡ Some (2, OfLine (Many 1))
too_many = refl
