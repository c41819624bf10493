-- Where the output of a day is stopped.
use Rattle.std.specs.Prelude.{ℕ, ◌≡◌, ◌∷◌, ◌++◌, List}
use Rattle.road_time.specs.declared.road.Tuple.{Tuple}
use Rattle.road_time.specs.Rates.{Tariffs}
use Rattle.road_time.specs.Day.{notices}
use Rattle.road_time.specs.Text.{out}
use Rattle.day_floor.specs.declared.fault.SettleFault.{SettleFault}
use Rattle.day_floor.specs.declared.fault.SettleFault.TheVariants.{KeeperFault, WriteFault, NoMemory}
use Rattle.road_io.specs.Levels.{Level, Adds, AddsFront, AddsPieces, FillsUp}
use Rattle.day_floor.specs.Asking.{AskingPlan, PassesCalls, PassesUpTo, FailsAfter, asked_by, requests_of}

-- the sink took the whole output of a day, and the keeper was asked for each request, and planned none of these calls
-- to fail
abbrev pub TakesDay : List Tuple → Tariffs → ℕ → (ℕ → ℕ → ℕ → ℕ) → Level → Level → AskingPlan → AskingPlan → Type 0
TakesDay day tariffs number kept old now plan left = Adds old now (out (notices day tariffs number kept))
    × PassesCalls (requests_of day) plan left

-- the keeper failed at a request, as it was planned, and at none before; of the output of the tuples up to there all
-- is written but what a piece holds
pub record FailsInDay (day : List Tuple) (tariffs : Tariffs) (number : ℕ) (kept : ℕ → ℕ → ℕ → ℕ) (old now : Level)
    (plan left : AskingPlan) : Type 0 where
  pub done : List Tuple
  pub request : Tuple
  pub later : List Tuple
  pub day_is : day ≡ done ++ request ∷ later
  pub asks : asked_by request ≡ 1
  pub wrote : AddsPieces (out (notices done tariffs number kept)) old now
  pub failed : FailsAfter (requests_of done) plan left

-- where it was stopped: by the keeper at the call that was planned to fail; by the sink where its room was full; or
-- for want of memory
abbrev pub StopsDay : SettleFault → List Tuple → Tariffs → ℕ → (ℕ → ℕ → ℕ → ℕ) → Level → Level → AskingPlan →
    AskingPlan → Type 0
StopsDay KeeperFault day tariffs number kept old now plan left = FailsInDay day tariffs number kept old now plan left
StopsDay WriteFault day tariffs number kept old now plan left = FillsUp (out (notices day tariffs number kept)) old now
    × PassesUpTo (requests_of day) plan left
StopsDay NoMemory day tariffs number kept old now plan left = AddsFront (out (notices day tariffs number kept)) old now
    × PassesUpTo (requests_of day) plan left
