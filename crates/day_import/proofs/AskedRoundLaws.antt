-- how a keeper was asked
use Rattle.std.proofs.Common.{◌≡◌, ℕ, ◌+◌, Bool, true, false, Result, Ok, Err, refl}
use Rattle.std.specs.Prelude.{Option, Some, None}
use Rattle.std.specs.Result.{IfOk, IfErr}
use Rattle.day_reading.specs.declared.whole_day.ReadStop.{ReadStop}
use Rattle.day_reading.specs.declared.whole_day.ReadStop.TheVariants as reading
use Rattle.day_floor.specs.declared.fault.SettleFault.{SettleFault}
use Rattle.day_floor.specs.declared.fault.SettleFault.TheVariants as settle
use Rattle.day_floor.specs.Faults.{is_keeping, keeper_failed}
use Rattle.road_io.specs.Levels.{Level}
use Rattle.day_floor.specs.Asking.{AskingPlan, requests_of}
use Rattle.day_floor.proofs.AskLaws.{passes_none, passes_on, fails_on}
use Rattle.day_floor.specs.Shares.{State}
use Rattle.day_floor.specs.Floors.{Setting, StopsSettling}
use Rattle.day_import.specs.DayFaults.{of_settling, of_reading, of_round}
use Rattle.day_import.specs.AskedRounds.{PassesSome, AsksUntil, is_keepers}

-- no call was made
pub none_asked : (plan : AskingPlan) → PassesSome plan plan
none_asked plan = (0, passes_none plan)

-- calls that pass, and then further ones
pub asked_on : (failed : Bool) (a b c : AskingPlan) → PassesSome a b → AsksUntil failed b c → AsksUntil failed a c
asked_on true a b c h k = (h.0 + k.0, fails_on a b c h.0 k.0 h.1 k.1)
asked_on false a b c h k = (h.0 + k.0, passes_on a b c h.0 k.0 h.1 k.1)

-- settling asks until it is stopped
pub stopped_asked : (fault : SettleFault) (e : Setting) (s : State) (n : ℕ) (old now : Level) (plan left : AskingPlan) →
    StopsSettling fault e s n old now plan left → AsksUntil (is_keeping fault) plan left
stopped_asked settle.KeeperFault e s n old now plan left h = (requests_of h.done, h.failed)
stopped_asked settle.WriteFault e s n old now plan left h = (h.3.0, h.3.2)
stopped_asked settle.NoMemory e s n old now plan left h = (h.3.0, h.3.2)

pub settled_asked : {T : Type 0} (r : Result T SettleFault) (old now : AskingPlan) → IfOk r (λ x. PassesSome old now) →
    IfErr r (λ fault. AsksUntil (is_keeping fault) old now) → AsksUntil (keeper_failed r) old now
settled_asked (Ok x) old now passed stopped = passed
settled_asked (Err fault) old now passed stopped = stopped

-- the fault of a day is the keeper's where that of its settling is
pub same_settling : (fault : SettleFault) → is_keepers (of_settling fault) ≡ is_keeping fault
same_settling settle.KeeperFault = refl
same_settling settle.WriteFault = refl
same_settling settle.NoMemory = refl

pub same_round : (fault : SettleFault) (stop : Option ReadStop) → is_keepers (of_round fault stop) ≡ is_keeping fault
same_round settle.KeeperFault stop = refl
same_round settle.WriteFault stop = refl
same_round settle.NoMemory None = refl
same_round settle.NoMemory (Some reading.ReadFault) = refl
same_round settle.NoMemory (Some reading.NoMemory) = refl

-- and it is not where reading stopped
pub none_reading : (stop : ReadStop) → is_keepers (of_reading stop) ≡ false
none_reading reading.ReadFault = refl
none_reading reading.NoMemory = refl
