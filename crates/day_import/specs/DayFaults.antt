-- When a day is stopped, and by what.
use Rattle.std.specs.Prelude.{ℕ, ◌≡◌, ◌≢◌, ◌≤◌, List, Option, Some, None, Result, Err, OnOk}
use Rattle.road_io.specs.Faults.{Rose}
use Rattle.road_time.specs.declared.road.Tuple.{Tuple}
use Rattle.road_time.specs.Day.{notices}
use Rattle.road_time.specs.Text.{out}
use Rattle.day_reading.specs.declared.whole_day.ReadStop.{ReadStop}
use Rattle.day_reading.specs.declared.whole_day.ReadStop.TheVariants as reading
use Rattle.day_floor.specs.declared.fault.SettleFault.{SettleFault}
use Rattle.day_floor.specs.declared.fault.SettleFault.TheVariants as settle
use Rattle.day_floor.specs.Printing.{WritesFront, WritesLess}
use Rattle.day_floor.specs.Floors.{Setting}
use Rattle.day_import.specs.declared.fault.DayFault.{DayFault}
use Rattle.day_import.specs.declared.fault.DayFault.TheVariants.{ReadFault, WriteFault, KeeperFault, NoMemory}

-- the fault of a day whose settling was stopped
abbrev pub of_settling : SettleFault → DayFault
of_settling settle.KeeperFault = KeeperFault
of_settling settle.WriteFault = WriteFault
of_settling settle.NoMemory = NoMemory

-- the fault of a day whose reading was stopped
abbrev pub of_reading : ReadStop → DayFault
of_reading reading.ReadFault = ReadFault
of_reading reading.NoMemory = NoMemory

-- the fault of a round whose settling was stopped: a read that failed before memory ran out is not called want of it
abbrev pub of_round : SettleFault → Option ReadStop → DayFault
of_round settle.KeeperFault stop = KeeperFault
of_round settle.WriteFault stop = WriteFault
of_round settle.NoMemory None = NoMemory
of_round settle.NoMemory (Some stop) = of_reading stop

-- a count of faults never falls; it rose where this fault is the answer, and stands where it is not; and over an object
-- that never fails it is not
pub record IsCounted {T : Type 0} (fault : DayFault) (before now : ℕ) (fine left : Type 0)
    (result : Result T DayFault) : Type 0 where
  pub later : before ≤ now
  pub cause : result ≡ Err fault → Rose before now
  pub still : result ≢ Err fault → now ≡ before
  pub sure : fine → (result ≢ Err fault) × left

-- the same of a source that is read ahead: it stands where the call went well or memory ran out; where the sink or the
-- keeper stopped the call, a read that was made ahead may have failed too
pub record IsCountedAhead {T : Type 0} (fault : DayFault) (before now : ℕ) (fine left : Type 0)
    (result : Result T DayFault) : Type 0 where
  pub later : before ≤ now
  pub cause : result ≡ Err fault → Rose before now
  pub passed : OnOk result (now ≡ before)
  pub still : result ≢ Err fault → result ≢ Err WriteFault → result ≢ Err KeeperFault → now ≡ before
  pub sure : fine → (result ≢ Err fault) × left

-- some first bytes of a text were written where a day was stopped, and after a write fault not all
abbrev pub WritesUpTo : DayFault → List ℕ → Option (List ℕ) → Option (List ℕ) → Type 0
WritesUpTo ReadFault text old new = WritesFront text old new
WritesUpTo WriteFault text old new = WritesLess text old new
WritesUpTo KeeperFault text old new = WritesFront text old new
WritesUpTo NoMemory text old new = WritesFront text old new

-- some first bytes of a day's output were written
abbrev pub HasDayFront : DayFault → Setting → List Tuple → Option (List ℕ) → Option (List ℕ) → Type 0
HasDayFront fault e day first now = (kept : ℕ → ℕ → ℕ → ℕ) → e.history ≡ Some kept →
    WritesUpTo fault (out (notices day e.tariffs e.number kept)) first now
