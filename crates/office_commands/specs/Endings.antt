-- What was written and what is kept, by how a run ended.
use Rattle.std.specs.Prelude.{ℕ, ◌≡◌, ◌≢◌, ◌<◌, ◌⊎◌, List, [], ◌++◌, length, take, Option, Some, None, Result, Ok, Err}
use Rattle.std.specs.Io.KnownBytes.{Appends}
use Rattle.road_io.specs.declared.source.Failed.{Failed}
use Rattle.keep_office.specs.declared.kept.KeepFault.{KeepFault}
use Rattle.keep_office.specs.declared.kept.KeepFault.TheVariants as keeping
use Rattle.keep_office.specs.Calls.{WhenRefused, Leaves}
use Rattle.keep_office.specs.Office.{Office}
use Rattle.day_reading.specs.declared.whole_day.ReadStop.{ReadStop}
use Rattle.day_reading.specs.declared.whole_day.ReadStop.TheVariants as stops
use Rattle.day_reading.specs.declared.whole.CheckStop.{CheckStop}
use Rattle.day_reading.specs.declared.whole.CheckStop.TheVariants as checks
use Rattle.office_reports.specs.declared.report_fault.ReportFault.{ReportFault}
use Rattle.office_reports.specs.declared.report_fault.ReportFault.TheVariants as reports
use Rattle.office_commands.specs.declared.closing.Closing.{Closing}
use Rattle.office_commands.specs.declared.closing.Closing.TheVariants.{NoDay, Unsound, ReadFault, KeeperFault, NoMemory}
use Rattle.office_commands.specs.Closings.{closing_line, status_of}
use Rattle.office_commands.specs.Commands.{Answer}

-- What a closing line says: how the command ends, that it could not read, that the keeper failed, or that memory ran
-- out.
pub data Sort : Type 0 where
  Own : Sort
  Unread : Sort
  Unkept : Sort
  Unroomed : Sort

-- what each closing line says
abbrev pub sort_of : Closing → Sort
sort_of ReadFault = Unread
sort_of KeeperFault = Unkept
sort_of NoMemory = Unroomed
sort_of _ = Own

-- a text is some first bytes of another
abbrev pub IsTextFront : List ℕ → List ℕ → Type 0
IsTextFront text whole = (k : ℕ) × (text ≡ take k whole)

-- nothing stands before a fault's closing line of a command that has none of its own
abbrev pub IsSilent : Answer → List ℕ → Type 0
IsSilent a text = None ≡ a.closing → text ≡ []

-- what may stand before the closing line of a fault: some first bytes of the text
abbrev pub StandsByFault : Answer → List ℕ → Type 0
StandsByFault a text = IsTextFront text a.text × IsSilent a text

-- what may stand before a closing line of a sort: the whole text before the command's own, some first bytes of it
-- before that of a fault
abbrev pub StandsBy : Sort → Answer → Closing → List ℕ → Type 0
StandsBy Own a c text = (Some c ≡ a.closing) × (text ≡ a.text)
StandsBy _ a c text = StandsByFault a text

-- what may stand before a closing line
abbrev pub StandsBefore : Answer → Closing → List ℕ → Type 0
StandsBefore a c text = StandsBy (sort_of c) a c text

-- some first bytes of a command's text were written, and not all
abbrev pub WroteShort : Answer → Option (List ℕ) → Option (List ℕ) → Type 0
WroteShort a old new = (k : ℕ) × (k < length a.text) × Appends old new (take k a.text)

-- a command wrote what may stand before the closing line that it names, or all where it has none, or its sink failed
-- after some first bytes of its text, and not all
abbrev pub Wrote : Answer → Result (Option Closing) Failed → Option (List ℕ) → Option (List ℕ) → Type 0
Wrote a (Ok (Some c)) old new = (text : List ℕ) × StandsBefore a c text × Appends old new text
Wrote a (Ok None) old new = (None ≡ a.closing) × Appends old new a.text
Wrote a (Err e) old new = WroteShort a old new

-- what a fault or want of memory leaves: what was kept, or what a refused put leaves
abbrev pub LeftBy : WhenRefused → KeepFault → Answer → Office → Option Office → Type 0
LeftBy w fault a was now = (now ≡ Some was) ⊎ ((o : Office) × (now ≡ Some o) × Leaves w fault o was a.office)

-- what is kept where a closing line of a sort is to come
abbrev pub KeepsBy : Sort → WhenRefused → Answer → Office → Option Office → Type 0
KeepsBy Own w a was now = now ≡ Some a.office
KeepsBy Unread w a was now = now ≡ Some was
KeepsBy Unkept w a was now = LeftBy w keeping.Failed a was now
KeepsBy Unroomed w a was now = LeftBy w keeping.NoMemory a was now

-- what is kept, by how a command ended; where its sink failed, what was kept
abbrev pub Keeps : WhenRefused → Answer → Office → Option Office → Result (Option Closing) Failed → Type 0
Keeps w a was now (Ok (Some c)) = KeepsBy (sort_of c) w a was now
Keeps w a was now (Ok None) = now ≡ Some a.office
Keeps w a was now (Err e) = now ≡ Some was

-- what is kept is what was kept, or all that is asked
abbrev pub IsOldOrWhole : Answer → Office → Option Office → Type 0
IsOldOrWhole a was now = (now ≡ Some was) ⊎ (now ≡ Some a.office)

-- a command ends with the closing line that it has, and where it has none its sink failed
abbrev pub EndsCommand : Option Closing → Result (Option Closing) Failed → Type 0
EndsCommand None (Ok c) = ⊥
EndsCommand None (Err e) = Unit {0}
EndsCommand (Some k) (Ok c) = c ≡ Some k
EndsCommand (Some k) (Err e) = ⊥

-- how a report of a day ends, as a command
abbrev pub EndsReport : ℕ → Result (Unit {0}) ReportFault → Result (Option Closing) Failed → Type 0
EndsReport day (Ok u) (Ok c) = c ≡ None
EndsReport day (Err reports.NoDay) (Ok c) = c ≡ Some (NoDay day)
EndsReport day (Err reports.KeeperFault) (Ok c) = c ≡ Some KeeperFault
EndsReport day (Err (reports.Unsound unsound)) (Ok c) = c ≡ Some (Unsound unsound)
EndsReport day (Err reports.WriteFault) (Ok c) = ⊥
EndsReport day (Err reports.WriteFault) (Err e) = Unit {0}
EndsReport day (Err reports.NoMemory) (Ok c) = c ≡ Some NoMemory
EndsReport day _ (Err e) = ⊥

-- the closing of a run that could not read
abbrev pub stopping : ReadStop → Closing
stopping stops.ReadFault = ReadFault
stopping stops.NoMemory = NoMemory

-- the closing of a check that could not read
abbrev pub stopping_check : CheckStop → Closing
stopping_check checks.ReadFault = ReadFault
stopping_check checks.NoMemory = NoMemory

-- the closing of a run whose keeper refused
abbrev pub refusing : KeepFault → Closing
refusing keeping.Failed = KeeperFault
refusing keeping.NoMemory = NoMemory

-- a closing line was written and the status is its own, or the sink failed after some first bytes of it and not all
abbrev pub Closes : Closing → ℕ → Option (List ℕ) → Option (List ℕ) → Type 0
Closes c status old new =
    ((status ≡ status_of c) × Appends old new (closing_line c))
    ⊎ ((status ≡ 5) × ((k : ℕ) × (k < length (closing_line c)) × Appends old new (take k (closing_line c))))

-- a closing line is made in memory, but for those that say that the source or the keeper failed
abbrev pub TakesMemory : Closing → Type 0
TakesMemory c = (c ≢ ReadFault) × (c ≢ KeeperFault)

-- a run's closing line closes it, or where that takes memory, the line of want of memory
abbrev pub ClosesRun : Closing → ℕ → Option (List ℕ) → Option (List ℕ) → Type 0
ClosesRun c status old new = Closes c status old new ⊎ (TakesMemory c × Closes NoMemory status old new)

-- the closing line, if there is one
abbrev pub last_line : Option Closing → List ℕ
last_line None = []
last_line (Some c) = closing_line c

-- the status of a run that ends as a command asks
abbrev pub status_by : Option Closing → ℕ
status_by None = 0
status_by (Some c) = status_of c

-- the whole text and the command's closing line were written
abbrev pub WroteAll : Answer → Option (List ℕ) → Option (List ℕ) → Type 0
WroteAll a old new = Appends old new (a.text ++ last_line a.closing)

-- what may stand before a fault's closing line was written, and then that line
abbrev pub WroteFault : Answer → Closing → Option (List ℕ) → Option (List ℕ) → Type 0
WroteFault a c old new = (text : List ℕ) × StandsByFault a text × Appends old new (text ++ closing_line c)

-- some first bytes of the text were written, and not all; or all that may stand before a closing line, and then some
-- first bytes of that line, and not all
abbrev pub WroteSome : Answer → Option (List ℕ) → Option (List ℕ) → Type 0
WroteSome a old new =
    WroteShort a old new
    ⊎ ((c : Closing) × (text : List ℕ) × (k : ℕ) × StandsBefore a c text × (k < length (closing_line c))
    × Appends old new (text ++ take k (closing_line c)))

-- what was written, by the status that a run ended with
pub record Writes (a : Answer) (status : ℕ) (old new : Option (List ℕ)) : Type 0 where
  pub exact : status ≢ 4 → status ≢ 5 → status ≢ 6 → status ≢ 8 → (status ≡ status_by a.closing) × WroteAll a old new
  pub read_fault : status ≡ 4 → WroteFault a ReadFault old new
  pub write_fault : status ≡ 5 → WroteSome a old new
  pub keeper_fault : status ≡ 6 → WroteFault a KeeperFault old new
  pub no_memory : status ≡ 8 → WroteFault a NoMemory old new

-- what is kept, by the status that a run ended with, and whatever that is: what was kept, or all that is asked
pub record KeepsTo (w : WhenRefused) (a : Answer) (status : ℕ) (was : Office) (now : Option Office) : Type 0 where
  pub exact : status ≢ 4 → status ≢ 5 → status ≢ 6 → status ≢ 8 → now ≡ Some a.office
  pub refused : status ≡ 6 → LeftBy w keeping.Failed a was now
  pub whole : IsOldOrWhole a was now

-- the status that a run is to end with, if its closing line is written
abbrev pub code_of : Result (Option Closing) Failed → ℕ
code_of (Ok (Some c)) = status_of c
code_of (Ok None) = 0
code_of (Err e) = 5

-- One relation over what was written and what is kept:

-- a fault or want of memory: some first bytes of the text stand there and what is kept is as it was, or the whole text
-- does and the put was refused
abbrev pub Halted : WhenRefused → KeepFault → Answer → Office → List ℕ → Option Office → Type 0
Halted w fault a was text now =
    IsSilent a text
    × ((IsTextFront text a.text × (now ≡ Some was))
    ⊎ ((text ≡ a.text) × ((o : Office) × (now ≡ Some o) × Leaves w fault o was a.office)))

-- what stands before a closing line of a sort, and what is kept then
abbrev pub HoldsBy : Sort → WhenRefused → Answer → Office → Closing → List ℕ → Option Office → Type 0
HoldsBy Own w a was c text now = (Some c ≡ a.closing) × (text ≡ a.text) × (now ≡ Some a.office)
HoldsBy Unread w a was c text now = StandsByFault a text × (now ≡ Some was)
HoldsBy Unkept w a was c text now = Halted w keeping.Failed a was text now
HoldsBy Unroomed w a was c text now = Halted w keeping.NoMemory a was text now

-- the sink failed in the text: some first bytes of it stand there, and not all, and what is kept is as it was
abbrev pub Broke : Answer → Office → Option (List ℕ) → Option (List ℕ) → Option Office → Type 0
Broke a was old new now = WroteShort a old new × (now ≡ Some was)

-- what a command wrote and what is kept then, by how it ended
abbrev pub Did : WhenRefused → Answer → Office → Option (List ℕ) → Option (List ℕ) → Option Office
    → Result (Option Closing) Failed → Type 0
Did w a was old new now (Ok (Some c)) = (text : List ℕ) × HoldsBy (sort_of c) w a was c text now × Appends old new text
Did w a was old new now (Ok None) = (None ≡ a.closing) × Appends old new a.text × (now ≡ Some a.office)
Did w a was old new now (Err e) = Broke a was old new now

-- a text and a closing line were written and the status is that line's, or the sink failed in that line
abbrev pub SaysLine : List ℕ → Closing → ℕ → Option (List ℕ) → Option (List ℕ) → Type 0
SaysLine text c status old new =
    ((status ≡ status_of c) × Appends old new (text ++ closing_line c))
    ⊎ ((status ≡ 5) × ((k : ℕ) × (k < length (closing_line c)) × Appends old new (text ++ take k (closing_line c))))

-- a run with a closing line said it behind what it wrote, or, where that line takes memory, that memory ran out
abbrev pub SaidAll : WhenRefused → Answer → Office → ℕ → Option (List ℕ) → Option (List ℕ) → Option Office → Type 0
SaidAll w a was status old new now =
    (c : Closing) × (text : List ℕ) × HoldsBy (sort_of c) w a was c text now
    × (SaysLine text c status old new ⊎ (TakesMemory c × SaysLine text NoMemory status old new))

-- a run without one wrote all
abbrev pub WroteAlone : Answer → ℕ → Option (List ℕ) → Option (List ℕ) → Option Office → Type 0
WroteAlone a status old new now = (None ≡ a.closing) × (status ≡ 0) × Appends old new a.text × (now ≡ Some a.office)

-- the sink failed in a run's text
abbrev pub WroteLess : Answer → Office → ℕ → Option (List ℕ) → Option (List ℕ) → Option Office → Type 0
WroteLess a was status old new now = (status ≡ 5) × Broke a was old new now

-- the status, what was written and what is kept
abbrev pub Concludes : WhenRefused → Answer → Office → ℕ → Option (List ℕ) → Option (List ℕ) → Option Office → Type 0
Concludes w a was status old new now =
    SaidAll w a was status old new now ⊎ (WroteAlone a status old new now ⊎ WroteLess a was status old new now)

-- what is kept is as it was, unless a command ended well, its keeper failed, or memory ran out
abbrev pub HoldsSame : ℕ → Type 0 → Type 0
HoldsSame code same = code ≢ 0 → code ≢ 6 → code ≢ 8 → same
