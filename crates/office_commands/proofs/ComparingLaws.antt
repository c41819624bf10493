-- What is kept by a comparison, and by an accident log.
use Rattle.std.proofs.Common.{◌≡◌, ℕ, List, Option, Some, None, refl}
use Rattle.road_time.specs.declared.road.Tuple.{Tuple}
use Rattle.keep_office.specs.Office.{Office}
use Rattle.tuples_text.specs.declared.cause.Cause.{Cause}
use Rattle.road_time.specs.declared.day.Limits.{Limits}
use Rattle.road_time.specs.Lines.{lines_of}
use Rattle.road_time.specs.Reads.{reads}
use Rattle.office_words.specs.declared.command.Comparison.{Comparison}
use Rattle.office_commands.specs.Commands.{comparison_of, compared_tuples, compare_command, accidents_of}
use Rattle.office_commands.specs.Commands.{unless_refused, accidents_command}
use Rattle.office_commands.specs.Days.{recomputed, refusal_of}
use Rattle.office_words.specs.declared.command.Recomputing.TheVariants.{Plainly}

-- a comparison keeps what was kept
same_office : (refused : Option (ℕ × Cause)) (asked : Comparison) (tuples : List Tuple) (lines : List (List ℕ))
    (o : Office) → (unless_refused refused (comparison_of asked tuples lines o)).office ≡ o
same_office None asked tuples lines o = refl
same_office (Some r) asked tuples lines o = refl

-- so does the row of a command that compares
pub same_row : (limits : Limits) (asked : Comparison) (bytes aside : List ℕ) (o : Office) →
    (compare_command limits asked bytes aside o).office ≡ o
same_row limits asked bytes aside o =
    same_office (refusal_of (reads bytes (recomputed asked.how limits) asked.late).refused) asked
    (compared_tuples limits asked bytes) (lines_of aside) o

-- so does an accident log
accidents_office : (refused : Option (ℕ × Cause)) (tuples : List Tuple) (o : Office) →
    (unless_refused refused (accidents_of tuples o)).office ≡ o
accidents_office None tuples o = refl
accidents_office (Some r) tuples o = refl

-- and the row of the command that writes one
pub same_log : (limits : Limits) (late : ℕ) (bytes : List ℕ) (o : Office) →
    (accidents_command limits late bytes o).office ≡ o
same_log limits late bytes o =
    accidents_office (refusal_of (reads bytes (recomputed Plainly limits) late).refused)
    (reads bytes (recomputed Plainly limits) late).tuples o
