-- What one line does to the gatekeeper and to those that wait.
use Rattle.std.specs.Prelude.{ℕ, ◌≡◌, ◌≤◌, ◌+◌, ◌++◌, ◌∷◌, [], false, List, length, Option, Some, None}
use Rattle.std.specs.Option.{option_map}
use Rattle.road_time.specs.declared.road.Tuple.{Tuple}
use Rattle.road_time.specs.declared.day.Limits.{Limits}
use Rattle.road_time.specs.Reads.{admit_fault, line_fault, tuples_of}
use Rattle.tuples_text.specs.Causes.{cause_of}
use Rattle.tuples_text.specs.declared.cause.Cause.{Cause}
use Rattle.tuples_text.specs.Gates.{GateState, StandsFor}
use Rattle.tuples_text.specs.Sorting.{Sorting, IsSorting}
use Rattle.day_reading.specs.declared.day_ahead.Following.{Following}
use Rattle.day_reading.specs.declared.day_ahead.Following.TheVariants.{Stops}
use Rattle.day_reading.specs.declared.ending.Ending.{Ending}
use Rattle.day_reading.specs.declared.ending.Ending.TheVariants.{Whole, Stopped}
use Rattle.day_reading.specs.declared.ending.ReadEnd.TheVariants.{Refused, ReadFault, NoMemory}

-- the reading ends at a refused line
abbrev pub refusal : ℕ → Cause → Ending
refusal line cause = Stopped (Refused line cause)

-- tuples were put behind those that were put before, and nothing more was taken
abbrev pub PutsTuples : ℕ → List Tuple → List Tuple → Sorting → Sorting → Type 0
PutsTuples late before after old new = (taken : ℕ) → IsSorting old late before taken false →
    IsSorting new late after taken false

-- a tuple was let in and waits, or is refused with its cause; want of memory is free
abbrev pub TakesTuple : Limits → ℕ → Option Ending → ℕ → Tuple → GateState → GateState → Sorting → Sorting → Type 0
TakesTuple limits late None line x gate gate' sorter sorter' = (before : List Tuple) → StandsFor gate limits late before
    → (admit_fault limits late before x ≡ None) × StandsFor gate' limits late (before ++ x ∷ [])
    × PutsTuples late before (before ++ x ∷ []) sorter sorter'
TakesTuple limits late (Some Whole) line x gate gate' sorter sorter' = ⊥
TakesTuple limits late (Some (Stopped (Refused n cause))) line x gate gate' sorter sorter' =
    (n ≡ line) × (sorter' ≡ sorter)
    × ((before : List Tuple) → StandsFor gate limits late before →
    option_map cause_of (admit_fault limits late before x) ≡ Some cause)
TakesTuple limits late (Some (Stopped ReadFault)) line x gate gate' sorter sorter' = ⊥
TakesTuple limits late (Some (Stopped NoMemory)) line x gate gate' sorter sorter' = Unit {0}

-- the same of a line that follows others, which may have no tuple
abbrev pub TakesLine : Limits → ℕ → Option Ending → ℕ → List ℕ → GateState → GateState → Sorting → Sorting → Type 0
TakesLine limits late None line text gate gate' sorter sorter' = (before : List (List ℕ)) → length before + 1 ≡ line →
    StandsFor gate limits late (tuples_of before)
    → (line_fault limits late before text ≡ None) × StandsFor gate' limits late (tuples_of (before ++ text ∷ []))
    × PutsTuples late (tuples_of before) (tuples_of (before ++ text ∷ [])) sorter sorter'
TakesLine limits late (Some Whole) line text gate gate' sorter sorter' = ⊥
TakesLine limits late (Some (Stopped (Refused n cause))) line text gate gate' sorter sorter' =
    (n ≡ line) × (sorter' ≡ sorter)
    × ((before : List (List ℕ)) → length before + 1 ≡ line → StandsFor gate limits late (tuples_of before) →
    option_map cause_of (line_fault limits late before text) ≡ Some cause)
TakesLine limits late (Some (Stopped ReadFault)) line text gate gate' sorter sorter' = ⊥
TakesLine limits late (Some (Stopped NoMemory)) line text gate gate' sorter sorter' = Unit {0}

-- a refused line is the last of so many that were cut, or the one behind them
abbrev pub StopsAfter : Option Ending → ℕ → Type 0
StopsAfter end n = (line : ℕ) (cause : Cause) → end ≡ Some (Stopped (Refused line cause)) → n ≤ line

-- the same of a refused line that follows what was given
abbrev pub FollowsAfter : Following → ℕ → Type 0
FollowsAfter following n = (line : ℕ) (cause : Cause) → following ≡ Stops line cause → n ≤ line
