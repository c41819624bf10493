-- What a settler stands for, and what settling some positions does.
use Rattle.std.specs.Prelude.{ℕ, ◌≡◌, ◌+◌, ◌≤◌, List, [], ◌∷◌, ◌++◌, length, map, Option, Result, Ok, Err}
use Rattle.std.specs.Prelude.{Bool}
use Rattle.std.specs.Io.KnownBytes.{Appends}
use Rattle.road_time.specs.declared.road.Tuple.{Tuple}
use Rattle.road_time.specs.declared.road.Notice.{Notice}
use Rattle.road_time.specs.Sights.{moments, moments_after, Sight}
use Rattle.road_time.specs.Tolls.{StretchTold}
use Rattle.road_time.specs.Day.{charges_by, HasFewTolls}
use Rattle.road_time.specs.Text.{out}
use Rattle.day_floor.specs.Operations.{charge_of}
use Rattle.day_floor.specs.TextDigests.{TookText}
use Rattle.day_floor.specs.declared.due_slot.Slot.{Slot}
use Rattle.day_floor.specs.declared.fault.SettleFault.{SettleFault}
use Rattle.day_floor.specs.declared.settler.Settler.{Settler}
use Rattle.day_floor.specs.Slots.{slots_of}
use Rattle.day_floor.specs.SettlingBooks.{IsBook}
use Rattle.day_floor.specs.Answers.{PaidHistory, AreNotices}
use Rattle.day_floor.specs.declared.fault.SettleFault.TheVariants.{KeeperFault, WriteFault, NoMemory}
use Rattle.day_floor.specs.declared.due_slot.Due.{Due}
use Rattle.day_floor.specs.declared.printer.Printer.{Printer}
use Rattle.road_io.specs.Levels.{Level, Adds, AddsFront, AddsPieces, FillsUp}
use Rattle.day_floor.specs.Asking.{AskingPlan, PassesCalls, PassesUpTo, FailsAfter, asked_by, requests_of, slot_asked}
use Rattle.day_floor.specs.Printing.{HoldsPiece, WritesSome, Says}

-- whether a settler takes the digest of its text
abbrev pub is_digested : Settler → Bool
is_digested s = s.printer.digest.asked

-- a settler between two runs: its book is that of the tuples that are settled, and it took the text of their notices
pub record StandsFor (s : Settler) (finding : Sight → StretchTold) (number : ℕ) (history : PaidHistory)
    (before : List Tuple) : Type 0 where
  pub settled : s.settled ≡ length before
  pub book : IsBook s.book finding before
  pub told : List Notice
  pub told_are : AreNotices finding number history (moments before) told
  pub count : s.printer.notices ≡ length told
  pub took : TookText s.printer.digest (out told)
  pub none_held : s.printer.piece.items ≡ []
  pub none_charged : s.charges.items ≡ []

-- a settler in the midst of a run over some tuples more, of whose text the sink took a part, and for whose requests
-- the keeper was asked
pub record InRun (s : Settler) (finding : Sight → StretchTold) (number : ℕ) (history : PaidHistory)
    (before run : List Tuple)
    (old now : Level) (plan left : AskingPlan) : Type 0 where
  pub settled : s.settled ≡ length (before ++ run)
  pub book : IsBook s.book finding (before ++ run)
  pub earlier : List Notice
  pub earlier_are : AreNotices finding number history (moments before) earlier
  pub told : List Notice
  pub told_are : AreNotices finding number history (moments_after before run) told
  pub count : s.printer.notices ≡ length earlier + length told
  pub holds : HoldsPiece s.printer (out earlier) (out told) old now
  pub charged : map charge_of s.charges.items ≡ charges_by finding (moments_after before run)
  pub passed : PassesCalls (requests_of run) plan left

-- a settler after a run, whose text was taken whole
pub record HasSettled (s : Settler) (finding : Sight → StretchTold) (number : ℕ) (history : PaidHistory)
    (before run : List Tuple)
    (old now : Level) (plan left : AskingPlan) : Type 0 where
  pub settled : s.settled ≡ length (before ++ run)
  pub book : IsBook s.book finding (before ++ run)
  pub earlier : List Notice
  pub earlier_are : AreNotices finding number history (moments before) earlier
  pub told : List Notice
  pub told_are : AreNotices finding number history (moments_after before run) told
  pub count : s.printer.notices ≡ length earlier + length told
  pub took : TookText s.printer.digest (out earlier ++ out told)
  pub none_held : s.printer.piece.items ≡ []
  pub wrote : Adds old now (out told)
  pub charged : map charge_of s.charges.items ≡ charges_by finding (moments_after before run)
  pub passed : PassesCalls (requests_of run) plan left

-- the slots are those of tuples that follow the settled ones, few enough for a day
pub record Waits (slots : List Slot) (finding : Sight → StretchTold) (before rest : List Tuple) : Type 0 where
  pub slots_are : slots ≡ slots_of finding before rest
  pub few_tolls : HasFewTolls finding
  pub few : length before + length rest ≤ 16000000

-- the text of the notices of a run was written
abbrev pub WritesRun : (Sight → StretchTold) → ℕ → PaidHistory → List Tuple → List Tuple → Option (List ℕ) →
    Option (List ℕ) → Type 0
WritesRun finding number history before run old now =
    (told : List Notice) × AreNotices finding number history (moments_after before run) told
    × Appends old now (out told)

-- some first bytes of it were written
abbrev pub WritesSomeOfRun : SettleFault → (Sight → StretchTold) → ℕ → PaidHistory → List Tuple → List Tuple →
    Option (List ℕ) → Option (List ℕ) → Type 0
WritesSomeOfRun fault finding number history before run old now =
    (told : List Notice) × AreNotices finding number history (moments_after before run) told
    × WritesSome fault (out told) old now

-- a slot was settled, with these notices, or settling was stopped at it: by the keeper before anything was said
abbrev pub SettlesSlot : {T : Type 0} → Result T SettleFault → Due → Printer → Printer → Level → Level → AskingPlan →
    AskingPlan → List Notice → Type 0
SettlesSlot (Ok x) due p q before now plan left ns = Says (Ok x) p q before now ns
    × PassesCalls (slot_asked due) plan left
SettlesSlot (Err KeeperFault) due p q before now plan left ns = (slot_asked due ≡ 1) × (now ≡ before)
    × FailsAfter 0 plan left
SettlesSlot (Err WriteFault) due p q before now plan left ns = Says {T = Unit {0}} (Err WriteFault) p q before now ns
    × PassesUpTo (slot_asked due) plan left
SettlesSlot (Err NoMemory) due p q before now plan left ns = Says {T = Unit {0}} (Err NoMemory) p q before now ns
    × PassesUpTo (slot_asked due) plan left

-- the sink took the text of the notices of a run, and the keeper was asked for each request, and planned none of these
-- calls to fail
abbrev pub TakesRun : (Sight → StretchTold) → ℕ → PaidHistory → List Tuple → List Tuple → Level → Level → AskingPlan →
    AskingPlan → Type 0
TakesRun finding number history before run old now plan left =
    (told : List Notice) × AreNotices finding number history (moments_after before run) told × Adds old now (out told)
    × PassesCalls (requests_of run) plan left

-- the keeper failed at a request of a run, as it was planned, and at none before; of the text up to there all is
-- written but what a piece holds
pub record FailsInRun (finding : Sight → StretchTold) (number : ℕ) (history : PaidHistory) (before run : List Tuple)
    (old now : Level) (plan left : AskingPlan) : Type 0 where
  pub done : List Tuple
  pub request : Tuple
  pub later : List Tuple
  pub run_is : run ≡ done ++ request ∷ later
  pub asks : asked_by request ≡ 1
  pub told : List Notice
  pub told_are : AreNotices finding number history (moments_after before done) told
  pub wrote : AddsPieces (out told) old now
  pub failed : FailsAfter (requests_of done) plan left

-- where a run was stopped: by the keeper at the call that was planned to fail; by the sink where its room was full; or
-- for want of memory
abbrev pub StopsRun : SettleFault → (Sight → StretchTold) → ℕ → PaidHistory → List Tuple → List Tuple → Level → Level →
    AskingPlan → AskingPlan → Type 0
StopsRun KeeperFault finding number history before run old now plan left =
    FailsInRun finding number history before run old now plan left
StopsRun WriteFault finding number history before run old now plan left =
    (told : List Notice) × AreNotices finding number history (moments_after before run) told
    × FillsUp (out told) old now × PassesUpTo (requests_of run) plan left
StopsRun NoMemory finding number history before run old now plan left =
    (told : List Notice) × AreNotices finding number history (moments_after before run) told
    × AddsFront (out told) old now × PassesUpTo (requests_of run) plan left
