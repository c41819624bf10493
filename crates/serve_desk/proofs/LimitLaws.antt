-- What is read of a day does not rest on how many tuples may wait.
use Rattle.std.proofs.Common.{◌≡◌, ℕ, ◌+◌, nat_le, nat_lt, List, [], ◌∷◌, ◌++◌, length, Option, Some, None, Result, Ok}
use Rattle.std.proofs.Common.{Err, if◌then◌else◌, refl, ap, ap₂}
use Rattle.road_time.specs.declared.day.Limits.{Limits}
use Rattle.road_time.specs.declared.road.Tuple.{Tuple}
use Rattle.road_time.specs.declared.road.Tuple.TheVariants.{Report as ReportTuple, Balance, Spent, Travel}
use Rattle.road_time.specs.Tuples.{time_of}
use Rattle.road_time.specs.Order.{by_time, greatest_time}
use Rattle.road_time.specs.Lines.{lines_of, without_cr}
use Rattle.road_time.specs.Form.{Fault, Long, Many, Late, form}
use Rattle.road_time.specs.Reads.{vehicle_fault, fault_of_form, line_fault, tuples_of, LinesRead, reading_at}
use Rattle.road_time.specs.Reads.{accepts_after}
use Rattle.road_time.specs.Reads.{reads}

module _ (limits : Limits) (n : ℕ) where
  -- the limits with another backlog
  abbrev pub other : Limits
  other = record limits { backlog = n }

  same_vehicle : (before : List Tuple) (x : Tuple) → vehicle_fault other before x ≡ vehicle_fault limits before x
  same_vehicle before (ReportTuple r) = refl
  same_vehicle before (Balance time vid qid) = refl
  same_vehicle before (Spent time vid xway qid day) = refl
  same_vehicle before (Travel time) = refl

  same_form : (late : ℕ) (before : List Tuple) (r : Result (Option Tuple) Fault) →
      fault_of_form other late before r ≡ fault_of_form limits late before r
  same_form late before (Err f) = refl
  same_form late before (Ok None) = refl
  same_form late before (Ok (Some x)) =
      ap (λ f. if nat_lt (time_of x + late) (greatest_time before)
      then Some (Late (greatest_time before) (time_of x)) else f) (same_vehicle before x)

  same_line : (late : ℕ) (before : List (List ℕ)) (line : List ℕ) →
      line_fault other late before line ≡ line_fault limits late before line
  same_line late before line =
      ap (λ f. if nat_lt 200 (length line) then Some Long
      else if nat_le limits.lines (length before) then Some (Many limits.lines) else f)
      (same_form late (tuples_of before) (form (without_cr line)))

  same_after : (late : ℕ) (before lines : List (List ℕ)) →
      accepts_after other late before lines ≡ accepts_after limits late before lines
  same_after late before [] = refl
  same_after late before (l ∷ ls) =
      ap₂ (λ f rest. reading_at before f rest) (same_line late before l) (same_after late (before ++ l ∷ []) ls)

  -- the same is read
  pub same_reads : (bytes : List ℕ) (late : ℕ) → reads bytes other late ≡ reads bytes limits late
  same_reads bytes late =
      ap (λ (a : LinesRead). let day : LinesRead = record { tuples = by_time a.tuples; refused = a.refused } in day)
      (same_after late [] (lines_of bytes))
