-- Days that are recomputed: how many lines one may have, and at which line its reading ends.

use Rattle.std.specs.Prelude.{ℕ, ◌≡◌, Bool, true, false, min, Option, Some, None}
use Rattle.std.specs.Option.{option_map}
use Rattle.road_time.specs.declared.day.Limits.{Limits}
use Rattle.road_time.specs.Form.{Fault}
use Rattle.tuples_text.specs.Causes.{cause_of}
use Rattle.tuples_text.specs.declared.cause.Cause.{Cause}
use Rattle.office_words.specs.declared.command.Recomputing.{Recomputing}
use Rattle.office_words.specs.declared.command.Recomputing.TheVariants.{Plainly, InBulk}
use Rattle.day_reading.specs.declared.whole_day.DayEnd.{DayEnd}
use Rattle.day_reading.specs.declared.whole_day.DayEnd.TheVariants as day_end

-- how many lines a day may have that is recomputed
abbrev pub most_lines : Recomputing → ℕ
most_lines Plainly = 1000000
most_lines (InBulk shards width) = 4000000

-- the limits of a day that is recomputed
abbrev pub recomputed : Recomputing → Limits → Limits
recomputed how limits = record limits { lines = min limits.lines (most_lines how) }

-- whether it is recomputed by a crew
abbrev pub in_bulk : Recomputing → Bool
in_bulk Plainly = false
in_bulk (InBulk shards width) = true

-- a crew by which a day is recomputed answers what is found by the rules
abbrev pub IsRightFor : Recomputing → Bool → Type 0
IsRightFor how exact = in_bulk how ≡ true → exact ≡ true

-- the refused line, with its cause
abbrev pub refusal_of : Option (ℕ × Fault) → Option (ℕ × Cause)
refusal_of refused = option_map (λ r. (r.0, cause_of r.1)) refused

-- the line at which a reading ended, if one was refused
abbrev pub refused_at : DayEnd → Option (ℕ × Cause)
refused_at (day_end.Whole bytes digest) = None
refused_at (day_end.Refused line cause) = Some (line, cause)
