-- How a keeper was asked where a day was worked.
use Rattle.std.specs.Prelude.{ℕ, Bool, true, false, Result, Ok, Err}
use Rattle.day_floor.specs.Asking.{AskingPlan, PassesCalls, FailsAfter}
use Rattle.day_import.specs.declared.fault.DayFault.{DayFault}
use Rattle.day_import.specs.declared.fault.DayFault.TheVariants.{ReadFault, WriteFault, KeeperFault, NoMemory}

-- some calls passed, none of which was planned to fail
abbrev pub PassesSome : AskingPlan → AskingPlan → Type 0
PassesSome old now = (k : ℕ) × PassesCalls k old now

-- some calls passed, and then one failed as it was planned
abbrev pub FailsAtLast : AskingPlan → AskingPlan → Type 0
FailsAtLast old now = (k : ℕ) × FailsAfter k old now

-- where the keeper stopped a day, its last call failed as it was planned; else no call that was planned to fail was made
abbrev pub AsksUntil : Bool → AskingPlan → AskingPlan → Type 0
AsksUntil true old now = FailsAtLast old now
AsksUntil false old now = PassesSome old now

-- the keeper failed
abbrev pub is_keepers : DayFault → Bool
is_keepers ReadFault = false
is_keepers WriteFault = false
is_keepers KeeperFault = true
is_keepers NoMemory = false

-- a day was stopped by the keeper
abbrev pub keeper_stopped : {T : Type 0} → Result T DayFault → Bool
keeper_stopped (Ok x) = false
keeper_stopped (Err fault) = is_keepers fault
