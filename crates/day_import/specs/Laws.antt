-- Laws of imports, which no code runs.
use Rattle.std.specs.Prelude.{◌≡◌, ◌⊎◌, ℕ, List, [], ◌∷◌, Option, Some}
use Rattle.road_time.specs.declared.road.Tuple.{Tuple}
use Rattle.road_time.specs.declared.day.Limits.{Limits}
use Rattle.road_time.specs.Reads.{reads}
use Rattle.keep_office.specs.declared.kept.DayRecord.{DayRecord}
use Rattle.keep_office.specs.Office.{Office, record_of}
use Rattle.keep_office.specs.Kept.{next_office}
use Rattle.keep_office.specs.Calls.{WhenRefused}
use Rattle.day_import.specs.declared.outcomes.Outcome.{Outcome}
use Rattle.day_import.specs.Imports.{import_answer, Does}

-- an import leaves the office as it was or with the day, and as it was where the day is kept
pub record KeepsOnce (number : ℕ) (bytes : List ℕ) (day : List Tuple) (was now : Office) : Type 0 where
  pub kept : (r : DayRecord) → record_of was number ≡ Some r → now ≡ was
  pub either : (now ≡ was) ⊎ (now ≡ next_office number bytes day was)

-- imports of one day and one input, one after another, by the offices that they leave
abbrev pub KeepOnce : ℕ → List ℕ → List Tuple → Office → List Office → Type 0
KeepOnce number bytes day was [] = Unit {0}
KeepOnce number bytes day was (now ∷ later) = KeepsOnce number bytes day was now × KeepOnce number bytes day now later

-- the office after the last of them
abbrev pub last_office : Office → List Office → Office
last_office was [] = was
last_office was (now ∷ later) = last_office now later

-- however often one day is imported of one input, it is kept once or not at all
abbrev pub RepeatLaw : Type 0
RepeatLaw =
    (number : ℕ) (bytes : List ℕ) (day : List Tuple) (was : Office) (later : List Office)
    → KeepOnce number bytes day was later
    → (last_office was later ≡ was) ⊎ (last_office was later ≡ next_office number bytes day was)

-- what an import does is such an import
abbrev pub OnceLaw : Type 0
OnceLaw =
    (w : WhenRefused) (number late : ℕ) (limits : Limits) (bytes : List ℕ) (was now : Office)
    (old new : Option (List ℕ)) (outcome : Outcome)
    → Does w (import_answer number late limits bytes was) was old new (Some now) outcome
    → KeepsOnce number bytes (reads bytes limits late).tuples was now
