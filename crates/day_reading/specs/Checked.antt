-- What is said of the lines of a day: each is checked against the lines before it that were not refused.
use Rattle.std.specs.Prelude.{ℕ, ◌+◌, List, [], ◌∷◌, ◌++◌, length, map, take, Option, Some, None, codes}
use Rattle.std.specs.List.{fold, flat_map}
use Rattle.std.specs.Fmt.{decimal}
use Rattle.road_time.specs.declared.day.Limits.{Limits}
use Rattle.road_time.specs.Form.{Fault}
use Rattle.road_time.specs.Reads.{line_fault}
use Rattle.tuples_text.specs.Causes.{cause_of, cause_text}
use Rattle.day_reading.specs.declared.tally.Refusal.{Refusal}

-- the good lines, and of each refused one the number, from 1, and why
pub record Checked : Type 0 where
  pub kept : List (List ℕ)
  pub refusals : List (ℕ × Fault)

-- no line was checked
abbrev pub unchecked : Checked
unchecked = record { kept = []; refusals = [] }

-- one line more, which is good or refused
abbrev pub checked_by : Option Fault → Checked → List ℕ → Checked
checked_by None c line = record { kept = c.kept ++ line ∷ []; refusals = c.refusals }
checked_by (Some fault) c line = record {
  kept = c.kept;
  refusals = c.refusals ++ (length c.kept + length c.refusals + 1, fault) ∷ [];
}

-- one line more, checked against the good lines before it
abbrev pub check_line : Limits → ℕ → Checked → List ℕ → Checked
check_line limits late c line = checked_by (line_fault limits late c.kept line) c line

-- the lines of a day, checked one after the other
abbrev pub checked : Limits → ℕ → List (List ℕ) → Checked
checked limits late lines = fold (check_line limits late) unchecked lines

-- a refused line, as the code has it
abbrev pub refusal_of : ℕ × Fault → Refusal
refusal_of r = record { line = r.0; cause = cause_of r.1 }

-- the refused lines that are named: the first 1,000
abbrev pub named_of : Checked → List Refusal
named_of c = take 1000 (map refusal_of c.refusals)

-- the line that names a refused line: its number and the cause
abbrev pub refusal_line : Refusal → List ℕ
refusal_line r = decimal r.line ++ (codes " " ++ (cause_text r.cause ++ codes "\n"))

-- the lines that name refused lines
abbrev pub refusals_text : List Refusal → List ℕ
refusals_text refusals = flat_map refusal_line refusals
