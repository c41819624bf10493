-- Laws of slots and settlers, which no code runs.

use Rattle.std.specs.Prelude.{ℕ, ◌≡◌, ◌+◌, ◌≤◌, ◌<◌, ◌^◌, ◌==◌, List, [], ◌∷◌, ◌++◌, length, take, drop, Option, Some}
use Rattle.std.specs.Prelude.{None, slice_get, slice_set}
use Rattle.std.specs.Map.{lookup}
use Rattle.std.specs.List.{filter_map, AllByRecursion}
use Rattle.road_time.specs.declared.road.Tuple.{Tuple}
use Rattle.road_time.specs.declared.road.Tuple.TheVariants.{Report as ReportTuple}
use Rattle.road_time.specs.declared.road.Report.{Report}
use Rattle.road_time.specs.declared.road.Notice.{Notice}
use Rattle.road_time.specs.Sights.{Moment, moments, moments_after, Sight}
use Rattle.road_time.specs.Tolls.{StretchTold}
use Rattle.road_time.specs.Day.{told_sight, charges_by, charges_between, notices_by, total_by, given, merged}
use Rattle.std.specs.Io.KnownBytes.{Appends}
use Rattle.road_time.specs.Text.{out}
use Rattle.road_time.specs.Day.{HasFewTolls}
use Rattle.day_floor.specs.TextDigests.{TookText}
use Rattle.day_floor.specs.declared.due_slot.Slot.{Slot}
use Rattle.day_floor.specs.declared.settler.Settler.{Settler}
use Rattle.day_floor.specs.Answers.{PaidHistory, AreNotices}
use Rattle.day_floor.specs.SettlingRuns.{StandsFor, Waits, WritesRun}
use Rattle.day_floor.specs.Slots.{slot_of, slots_of, found_of}

-- after a history that is told, the notices of moments are those of the definitions and no others
abbrev pub ExactLaw : Type 0
ExactLaw =
    (finding : Sight → StretchTold) (number : ℕ) (kept : ℕ → ℕ → ℕ → ℕ) (ms : List Moment) (told : List Notice) →
    AreNotices finding number (Some kept) ms told → told ≡ notices_by finding number kept ms

-- a run from one position of what was fed to another: its tuples and its charges, and what waits after it
abbrev pub FedLaw : Type 0
FedLaw =
    (fed : List Tuple) (a count : ℕ) → a + count ≤ length fed →
    (take a fed ++ take count (drop a fed) ≡ take (a + count) fed)
    × (drop count (drop a fed) ≡ drop (a + count) fed)
    × (moments_after (take a fed) (take count (drop a fed)) ≡ drop a (take (a + count) (moments fed)))
    × ((finding : Sight → StretchTold) → charges_by finding (moments_after (take a fed) (take count (drop a fed)))
    ≡ charges_between finding fed a (a + count))

-- a slot more waits when a tuple more is fed
abbrev pub FeedLaw : Type 0
FeedLaw =
    (slots : List Slot) (finding : Sight → StretchTold) (before rest : List Tuple) (x : Tuple) →
    Waits slots finding before rest → length before + length rest + 1 ≤ 16000000 →
    Waits (slots ++ slot_of finding (before ++ rest, x) ∷ []) finding before (rest ++ x ∷ [])

-- a settler stands for its tuples also by findings that are the same where they are told, as further ones given back
-- for later positions
abbrev pub SettledFindingLaw : Type 0
SettledFindingLaw =
    (s : Settler) (finding other : Sight → StretchTold) (number : ℕ) (history : PaidHistory) (before : List Tuple) →
    AllByRecursion (λ t. finding t ≡ other t) (filter_map told_sight (moments before)) →
    StandsFor s finding number history before → StandsFor s other number history before

-- with few tolls, what the tuples of a day owe is below 2^63
abbrev pub TotalLaw : Type 0
TotalLaw = (finding : Sight → StretchTold) (before : List Tuple) → HasFewTolls finding → length before ≤ 16000000 →
    total_by finding before < 2 ^ 63

-- a settler stands for its tuples also when further findings are given back, all of them for positions that are not
-- settled
abbrev pub LaterLaw : Type 0
LaterLaw =
    (s : Settler) (found more : List (ℕ × StretchTold)) (number : ℕ) (history : PaidHistory) (before : List Tuple) →
    AllByRecursion (λ q. length before ≤ q.0) more →
    StandsFor s (given found) number history before → StandsFor s (given (found ++ more)) number history before

-- a finding that is given for a report that waits, and for which none was given, is put into its slot
abbrev pub FillLaw : Type 0
FillLaw =
    (found : List (ℕ × StretchTold)) (finding : StretchTold) (before rest : List Tuple) (at : ℕ) (r : Report)
    (slot : Slot) → slice_get rest at ≡ Some (ReportTuple r) → lookup (λ q. q == length before + at) found ≡ None →
    slice_get (slots_of (given found) before rest) at ≡ Some slot →
    slots_of (given (found ++ (length before + at, finding) ∷ [])) before rest ≡ slice_set
    (slots_of (given found) before rest) at (record { due = slot.due; found = found_of finding })

-- after a history that is told, what a settler took in all is the merged output of its tuples, and its count that of
-- the merged notices
abbrev pub MergedLaw : Type 0
MergedLaw =
    (s : Settler) (found : List (ℕ × StretchTold)) (number : ℕ) (kept : ℕ → ℕ → ℕ → ℕ) (before : List Tuple) →
    StandsFor s (given found) number (Some kept) before →
    TookText s.printer.digest (out (merged before found number kept))
    × (s.printer.notices ≡ length (merged before found number kept))

-- and what a run wrote is the text of its moments' notices, which goes on where the merged output of the tuples before
-- ends
abbrev pub WroteLaw : Type 0
WroteLaw =
    (found : List (ℕ × StretchTold)) (number : ℕ) (kept : ℕ → ℕ → ℕ → ℕ) (before run : List Tuple) →
    ((old now : Option (List ℕ)) → WritesRun (given found) number (Some kept) before run old now →
    Appends old now (out (notices_by (given found) number kept (moments_after before run))))
    × (out (merged (before ++ run) found number kept) ≡ out (merged before found number kept)
    ++ out (notices_by (given found) number kept (moments_after before run)))
