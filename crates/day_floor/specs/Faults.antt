-- Whether the sink or the keeper stopped the settling, and that the count of the one that did rose.

use Rattle.std.specs.Prelude.{ℕ, ◌≡◌, ◌≤◌, Bool, true, false, Option, Result, Ok, Err}
use Rattle.road_io.specs.Faults.{Rose}
use Rattle.road_io.specs.Plans.{NeverFails}
use Rattle.road_io.specs.Rooms.{Room, Endless}
use Rattle.day_floor.specs.declared.fault.SettleFault.{SettleFault}
use Rattle.day_floor.specs.declared.fault.SettleFault.TheVariants.{KeeperFault, WriteFault, NoMemory}

-- the sink failed
abbrev pub is_write : SettleFault → Bool
is_write KeeperFault = false
is_write WriteFault = true
is_write NoMemory = false

-- the keeper failed
abbrev pub is_keeping : SettleFault → Bool
is_keeping KeeperFault = true
is_keeping WriteFault = false
is_keeping NoMemory = false

-- a call was stopped by the sink
abbrev pub write_failed : {T : Type 0} → Result T SettleFault → Bool
write_failed (Ok x) = false
write_failed (Err fault) = is_write fault

-- a call was stopped by the keeper
abbrev pub keeper_failed : {T : Type 0} → Result T SettleFault → Bool
keeper_failed (Ok x) = false
keeper_failed (Err fault) = is_keeping fault

-- a sink's count of faults never falls, it rose where the sink failed and stands where it did not, and a sink with
-- endless room does not fail
pub record SinkFaults {T : Type 0} (before now : ℕ) (room left : Room) (result : Result T SettleFault) : Type 0 where
  pub later : before ≤ now
  pub cause : write_failed result ≡ true → Rose before now
  pub still : write_failed result ≡ false → now ≡ before
  pub sure : room ≡ Endless → (write_failed result ≡ false) × (left ≡ Endless)

-- the same of a keeper, and one that plans no failing call does not fail
pub record KeeperFaults {T : Type 0} (before now : ℕ) (plan left : Option (ℕ → Bool)) (result : Result T SettleFault) :
    Type 0 where
  pub later : before ≤ now
  pub cause : keeper_failed result ≡ true → Rose before now
  pub still : keeper_failed result ≡ false → now ≡ before
  pub sure : NeverFails plan → (keeper_failed result ≡ false) × NeverFails left
