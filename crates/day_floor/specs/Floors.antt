-- Which state a floor stands for, and what it writes and takes as it settles.
use Rattle.std.specs.Prelude.{◌≡◌, ℕ, ◌-◌, Bool, true, false, List, Option, Some, None, slice_get, vec_len, take, drop}
use Rattle.road_time.specs.declared.day.Limits.{Limits}
use Rattle.road_time.specs.Rates.{Tariffs}
use Rattle.road_time.specs.Day.{given}
use Rattle.ways_expressway.specs.Kept.{KeptWays}
use Rattle.ways_expressway.specs.Stands.{StandsFor as CarriageStandsFor}
use Rattle.day_floor.specs.declared.floor.Floor.{Floor}
use Rattle.day_floor.specs.Terms.{AreTerms}
use Rattle.day_floor.specs.Shares.{Share, State, is_empty}
use Rattle.day_floor.specs.Sound.{SoundState}
use Rattle.day_floor.specs.Slots.{slots_of}
use Rattle.day_floor.specs.Desks.{StandFor}
use Rattle.day_floor.specs.declared.fault.SettleFault.{SettleFault}
use Rattle.day_floor.specs.Answers.{PaidHistory}
use Rattle.road_io.specs.Levels.{Level}
use Rattle.day_floor.specs.Asking.{AskingPlan}
use Rattle.day_floor.specs.SettlingRuns.{WritesRun, WritesSomeOfRun, TakesRun, StopsRun, StandsFor as SettlerStandsFor}
use Rattle.day_floor.specs.SettlingRuns.{is_digested}

-- a worker's carriage is out with a job, or it is at home and stands for the events that are back
abbrev pub IsHome : Tariffs → Option KeptWays → Share → Type 0
IsHome tariffs None share = is_empty share.out ≡ false
IsHome tariffs (Some c) share = (is_empty share.out ≡ true) × CarriageStandsFor c share.back × (c.tariffs ≡ tariffs)

-- what lies at the home of the worker with this number, if there is one, is so
abbrev pub HomeAt : Tariffs → List (Option KeptWays) → ℕ → Share → Type 0
HomeAt tariffs homes w share = (home : Option KeptWays) → slice_get homes w ≡ Some home → IsHome tariffs home share

-- how many workers a floor has
abbrev pub width_of : Floor → ℕ
width_of f = f.inboxes.width

-- the limits of a floor
abbrev pub limits_of : Floor → Limits
limits_of f = f.limits

-- under which tariffs a floor works, on which day, after which history, and whether it takes the digest of its text
pub record Setting : Type 0 where
  pub tariffs : Tariffs
  pub number : ℕ
  pub history : PaidHistory
  pub digested : Bool

-- a floor stands for a state, in a setting: its inboxes for the tuples fed, its slots for those that wait with what
-- was found for them, its homes for the shares, and its settler for the tuples that are settled
pub record StandsFor (g : Setting) (f : Floor) (s : State) : Type 0 where
  pub terms : AreTerms (width_of f) (limits_of f)
  pub sound : SoundState (width_of f) (limits_of f) s
  pub inboxes : StandFor f.inboxes s.fed s.share
  pub slots : f.slots.items ≡ slots_of (given s.found) (take s.settled s.fed) (drop s.settled s.fed)
  pub homes_width : vec_len f.homes ≡ width_of f
  pub homes : (w : ℕ) → HomeAt g.tariffs f.homes.items w (s.share w)
  pub settler : SettlerStandsFor f.settler (given s.found) g.number g.history (take s.settled s.fed)
  pub settled : f.settled ≡ s.settled
  pub given_is : f.given ≡ s.given
  pub digested : is_digested f.settler ≡ g.digested

-- a floor stands for some state
pub record StandsForSome (f : Floor) : Type 0 where
  pub setting : Setting
  pub state : State
  pub stands : StandsFor setting f state

-- the text of the notices of the positions from those settled up to n was written
abbrev pub WritesText : Setting → State → ℕ → Option (List ℕ) → Option (List ℕ) → Type 0
WritesText g s n old now =
    WritesRun (given s.found) g.number g.history (take s.settled s.fed) (take (n - s.settled) (drop s.settled s.fed))
    old now

-- some first bytes of that text were written, where settling was stopped
abbrev pub WritesSomeSettled : SettleFault → Setting → State → ℕ → Option (List ℕ) → Option (List ℕ) → Type 0
WritesSomeSettled fault g s n old now = WritesSomeOfRun fault (given s.found) g.number g.history (take s.settled s.fed)
    (take (n - s.settled) (drop s.settled s.fed)) old now

-- the sink took all of it, and the keeper was asked for each request, and planned none of these calls to fail
abbrev pub TakesSettled : Setting → State → ℕ → Level → Level → AskingPlan → AskingPlan → Type 0
TakesSettled g s n old now plan left =
    TakesRun (given s.found) g.number g.history (take s.settled s.fed) (take (n - s.settled) (drop s.settled s.fed)) old
    now plan left

-- where it was stopped: by the keeper at the call that was planned to fail; by the sink where its room was full; or
-- for want of memory
abbrev pub StopsSettling : SettleFault → Setting → State → ℕ → Level → Level → AskingPlan → AskingPlan → Type 0
StopsSettling fault g s n old now plan left =
    StopsRun fault (given s.found) g.number g.history (take s.settled s.fed)
    (take (n - s.settled) (drop s.settled s.fed)) old now plan left
