-- What is written of a day that is stopped.
use Rattle.std.specs.Prelude.{◌≡◌, ℕ, List, Option, Some}
use Rattle.std.specs.Io.KnownBytes.{Appends}
use Rattle.road_time.specs.declared.road.Tuple.{Tuple}
use Rattle.road_time.specs.Day.{notices}
use Rattle.road_time.specs.Text.{out}
use Rattle.day_floor.specs.declared.fault.SettleFault.{SettleFault}
use Rattle.day_floor.specs.Printing.{WritesSome}
use Rattle.day_floor.specs.Shares.{State}
use Rattle.day_floor.specs.Written.{settled_text}
use Rattle.day_floor.specs.Floors.{Setting}

-- the text of what is settled was written from a beginning
abbrev pub HasText : Setting → State → Option (List ℕ) → Option (List ℕ) → Type 0
HasText e s first now = (kept : ℕ → ℕ → ℕ → ℕ) → e.history ≡ Some kept →
    Appends first now (settled_text e.number kept s)

-- some first bytes of the output of a day were written from a beginning, and after a write fault not all
abbrev pub HasFront : SettleFault → Setting → List Tuple → Option (List ℕ) → Option (List ℕ) → Type 0
HasFront fault e day first now = (kept : ℕ → ℕ → ℕ → ℕ) → e.history ≡ Some kept →
    WritesSome fault (out (notices day e.tariffs e.number kept)) first now
