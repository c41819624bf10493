-- Days that are recomputed.
use Rattle.std.proofs.Common.{◌≡◌, ◌≤◌, ℕ, min, List, Option, Some, sym, ap, ◌∙◌, arith}
use Rattle.road_time.specs.declared.day.Limits.{Limits}
use Rattle.road_time.specs.Form.{Fault}
use Rattle.tuples_text.specs.declared.cause.Cause.{Cause}
use Rattle.road_time.specs.Fits.{IsLimits}
use Rattle.day_reading.specs.Days.{EndsReading}
use Rattle.day_reading.specs.declared.whole_day.DayEnd.{DayEnd}
use Rattle.day_reading.specs.declared.whole_day.DayEnd.TheVariants.{Whole, Refused}
use Rattle.office_words.specs.declared.command.Recomputing.{Recomputing}
use Rattle.office_words.specs.declared.command.Recomputing.TheVariants.{Plainly, InBulk}
use Rattle.office_commands.specs.Days.{most_lines, recomputed, refusal_of, refused_at}

-- the line at which a reading ended is the refused one
pub refused_same : (end : DayEnd) (bytes : List ℕ) (refused : Option (ℕ × Fault)) → EndsReading end bytes refused →
    refused_at end ≡ refusal_of refused
refused_same (Whole n digest) bytes refused h = sym (ap refusal_of h.0)
refused_same (Refused line cause) bytes refused h = ap (λ (k : Cause). Some (line, k)) (sym h.2)
    ∙ sym (ap refusal_of h.1)

-- lesser limits are within the greatest
pub recomputed_within : (how : Recomputing) (limits : Limits) → IsLimits limits → IsLimits (recomputed how limits)
recomputed_within how limits h = record {
  some_lines = some_lines how;
  lines = omega (arith, h.lines);
  some_vehicles = h.some_vehicles;
  vehicles = h.vehicles;
  some_backlog = h.some_backlog;
  backlog = h.backlog;
  some_past = h.some_past;
  past = h.past;
}
  where
    some_lines : (how : Recomputing) → 1 ≤ min limits.lines (most_lines how)
    some_lines Plainly = omega (arith, h.some_lines)
    some_lines (InBulk shards width) = omega (arith, h.some_lines)
