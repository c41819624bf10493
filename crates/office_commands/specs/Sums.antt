-- That a kept day which is told adds up, whatever its keeper tells of itself.
use Rattle.std.specs.Prelude.{ℕ, ◌≡◌, List, Option, Some, None, Result, Ok}
use Rattle.road_io.specs.declared.source.Failed.{Failed}
use Rattle.office_words.specs.declared.command.Command.{Command}
use Rattle.office_words.specs.declared.command.Command.TheVariants.{Day}
use Rattle.office_reports.specs.Endings.{AddsUp}
use Rattle.office_reports.specs.Statements.{day_text}
use Rattle.office_commands.specs.declared.closing.Closing.{Closing}
use Rattle.office_commands.specs.Endings.{code_of}

-- where `day` ends with status 0 it wrote the statement of a record and of amounts that come to its total
abbrev pub TellsSound : Option Command → ℕ → Option (List ℕ) → Option (List ℕ) → Type 0
TellsSound (Some (Day day)) status old new = status ≡ 0 → AddsUp day_text old new
TellsSound _ status old new = Unit {0}

-- and has no closing line
abbrev pub WroteSound : Option Command → Result (Option Closing) Failed → Option (List ℕ) → Option (List ℕ) → Type 0
WroteSound (Some (Day day)) r old new = code_of r ≡ 0 → (r ≡ Ok None) × AddsUp day_text old new
WroteSound _ r old new = Unit {0}
