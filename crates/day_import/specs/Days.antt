-- A day in the midst of its import.
use Rattle.std.specs.Prelude.{ℕ, List, Option}
use Rattle.road_time.specs.declared.day.Limits.{Limits}
use Rattle.day_floor.specs.Operations.{Posted}
use Rattle.day_reading.specs.declared.day_ahead.DayAhead.{DayAhead}
use Rattle.day_floor.specs.Shares.{State}
use Rattle.day_floor.specs.Floors.{Setting}
use Rattle.day_import.specs.Fronts.{HasText}
use Rattle.day_import.specs.Published.{HasStepped}
use Rattle.day_import.specs.Readers.{HasGiven}

-- what a reader gave since the day began was fed; the text of what is settled was written, and its steps were published
pub record IsOn (limits : Limits) (late : ℕ) (e : Setting) (ahead reader : DayAhead)
    (was left old new : Option (List ℕ)) (before posted : Option Posted) (now : State) : Type 0 where
  pub given : HasGiven limits late now.fed ahead reader was left
  pub text : HasText e now old new
  pub steps : HasStepped limits.backlog now before posted
