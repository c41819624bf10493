-- Text that is written in pieces.
use Rattle.std.specs.Prelude.{ℕ, ◌≡◌, ◌+◌, ◌<◌, ◌++◌, List, [], length, take, Option, Result, Ok, Err}
use Rattle.std.specs.Io.KnownBytes.{Appends}
use Rattle.road_time.specs.declared.road.Notice.{Notice}
use Rattle.road_time.specs.Text.{out}
use Rattle.day_floor.specs.TextDigests.{TookText}
use Rattle.day_floor.specs.declared.fault.SettleFault.{SettleFault}
use Rattle.day_floor.specs.declared.fault.SettleFault.TheVariants.{KeeperFault, WriteFault, NoMemory}
use Rattle.day_floor.specs.declared.printer.Printer.{Printer}
use Rattle.road_io.specs.Levels.{Level, Adds, AddsFront, FillsUp}

-- after an earlier text, some first bytes of a run's text were handed on, and the rest is held
pub record Prints (p : Printer) (earlier run : List ℕ) (old now : Level) : Type 0 where
  pub handed : List ℕ
  pub run_is : run ≡ handed ++ p.piece.items
  pub took : TookText p.digest (earlier ++ handed)
  pub wrote : Adds old now handed

-- what is held is less than a piece, and nothing of a shorter text was handed on
pub record HoldsPiece (p : Printer) (earlier run : List ℕ) (old now : Level) : Type 0 where
  pub prints : Prints p earlier run old now
  pub short : length p.piece.items < 65536
  pub none_yet : length run < 65536 → prints.handed ≡ []

-- a run's text was handed on whole
pub record IsPrinted (p : Printer) (earlier run : List ℕ) (old now : Level) : Type 0 where
  pub none_held : p.piece.items ≡ []
  pub took : TookText p.digest (earlier ++ run)
  pub wrote : Adds old now run

-- some first bytes of a text were written
abbrev pub WritesFront : List ℕ → Option (List ℕ) → Option (List ℕ) → Type 0
WritesFront text old new = (k : ℕ) × Appends old new (take k text)

-- some first bytes of the text were written, and not all
abbrev pub WritesLess : List ℕ → Option (List ℕ) → Option (List ℕ) → Type 0
WritesLess text old new = (k : ℕ) × (k < length text) × Appends old new (take k text)

-- what was written of a text where settling was stopped
abbrev pub WritesSome : SettleFault → List ℕ → Option (List ℕ) → Option (List ℕ) → Type 0
WritesSome KeeperFault text old new = WritesFront text old new
WritesSome WriteFault text old new = WritesLess text old new
WritesSome NoMemory text old new = WritesFront text old new

-- what a sink took of a text where a printer was stopped, which asks no keeper
abbrev pub AddsSome : SettleFault → List ℕ → Level → Level → Type 0
AddsSome KeeperFault text old now = ⊥
AddsSome WriteFault text old now = FillsUp text old now
AddsSome NoMemory text old now = AddsFront text old now

-- a printer took these notices, or was stopped at them
abbrev pub Says : {T : Type 0} → Result T SettleFault → Printer → Printer → Level → Level → List Notice → Type 0
Says (Ok x) p q before now ns =
    (q.notices ≡ p.notices + length ns)
    × ((earlier run : List ℕ) (old : Level) → HoldsPiece p earlier run old before →
    HoldsPiece q earlier (run ++ out ns) old now)
Says (Err fault) p q before now ns = (earlier run : List ℕ) (old : Level) → HoldsPiece p earlier run old before →
    AddsSome fault (run ++ out ns) old now

-- a printer handed on all that it held, or the sink failed
abbrev pub HandsOn : {T : Type 0} → Result T SettleFault → Printer → Printer → Level → Level → Type 0
HandsOn (Ok x) p q before now =
    (q.notices ≡ p.notices)
    × ((earlier run : List ℕ) (old : Level) → Prints p earlier run old before → IsPrinted q earlier run old now)
HandsOn (Err KeeperFault) p q before now = ⊥
HandsOn (Err WriteFault) p q before now = (earlier run : List ℕ) (old : Level) → Prints p earlier run old before →
    FillsUp run old now
HandsOn (Err NoMemory) p q before now = ⊥
