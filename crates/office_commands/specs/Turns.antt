-- A list of differences on its way, where the notices of one second may stand in any order.
use Rattle.std.specs.Prelude.{ℕ, ◌≡◌, ◌+◌, ◌-◌, ◌≤◌, List, ◌++◌, take, Option}
use Rattle.road_time.specs.declared.road.Notice.{Notice}
use Rattle.ways_audit.specs.Seconds.{seconds}
use Rattle.office_commands.specs.declared.aside.AsideEntry.{AsideEntry}
use Rattle.office_commands.specs.declared.aside.AsideEntry.TheVariants.{Line, Long, End}
use Rattle.office_commands.specs.declared.entry_text.EntryText.{EntryText}
use Rattle.office_commands.specs.declared.entry_text.EntryText.TheVariants.{Nothing, Malformed}
use Rattle.office_commands.specs.declared.difference.Difference.{Difference}
use Rattle.office_commands.specs.declared.turns.Turn.{Turn}
use Rattle.office_commands.specs.declared.turns.Turn.TheVariants.{Came, Stayed, Behind, Ended}
use Rattle.office_commands.specs.declared.second.Reach.{Reach}
use Rattle.office_commands.specs.declared.second.Reach.TheVariants as reach
use Rattle.office_commands.specs.Asides.{found_as}
use Rattle.office_commands.specs.AnyOrder.{missing_at, differences_within, differences_by_second}
use Rattle.office_commands.specs.Listings.{StandsAt}

-- the differences from behind a second on, by the number of the next line and the lines
abbrev pub Onward : Type 0
Onward = ℕ → List (List ℕ) → List Difference

-- what the current entry was found to be
abbrev pub found_at : AsideEntry → List ℕ → EntryText
found_at Line line = found_as line
found_at Long line = Malformed
found_at End line = Nothing

-- the differences in all are those that were listed, and those from what is left of a second on
abbrev pub ListsSecond : List Difference → List Difference → List Notice → Onward → ℕ → (Notice → ℕ) → ℕ → AsideEntry
    → List ℕ → Option (List ℕ) → Type 0
ListsSecond all listed run behind left coming n entry line after =
    (entries : List (List ℕ)) × StandsAt entry line after entries
    × (all ≡ listed ++ differences_within run behind left coming n entries)

-- the differences in all are those that were listed, the missing ones of a second, and those from behind it on
abbrev pub LeavesSecond : List Difference → List Difference → List Notice → Onward → (Notice → ℕ) → ℕ → AsideEntry
    → List ℕ → Option (List ℕ) → Type 0
LeavesSecond all listed run behind coming n entry line after =
    (entries : List (List ℕ)) × StandsAt entry line after entries
    × (all ≡ listed ++ (missing_at n (found_at entry line) coming run ++ behind n entries))

-- the differences in all are those that were listed, and those from behind a second on
abbrev pub ListsBehind : List Difference → List Difference → Onward → ℕ → AsideEntry → List ℕ → Option (List ℕ) → Type 0
ListsBehind all listed behind n entry line after =
    (entries : List (List ℕ)) × StandsAt entry line after entries × (all ≡ listed ++ behind n entries)

-- after a turn: a notice of the second came, another line was listed, the second is over, or nothing is left to list
abbrev pub TurnsTo : Turn → List Difference → List Difference → List Notice → Onward → ℕ → (Notice → ℕ) → ℕ → AsideEntry
    → List ℕ → Option (List ℕ) → Type 0
TurnsTo Came all listed run behind left coming n entry line after =
    ListsSecond all listed run behind (left - 1) coming n entry line after
TurnsTo Stayed all listed run behind left coming n entry line after =
    ListsSecond all listed run behind left coming n entry line after
TurnsTo Behind all listed run behind left coming n entry line after =
    LeavesSecond all listed run behind coming n entry line after
TurnsTo Ended all listed run behind left coming n entry line after = all ≡ listed

-- how many lines were read and how many differences listed, before a turn and after it: a line is read only where a
-- notice came or a difference more was listed
abbrev pub TurnCounts : Turn → ℕ → ℕ → ℕ → ℕ → Type 0
TurnCounts Came line_before line_now before now = (line_now ≡ line_before + 1) × (now ≡ before)
TurnCounts Stayed line_before line_now before now = (line_now ≡ line_before + 1) × (now ≡ before + 1)
TurnCounts Behind line_before line_now before now = (line_now ≡ line_before) × (now ≡ before)
TurnCounts Ended line_before line_now before now = (line_now ≡ line_before) × (before ≤ now) × (now ≤ before + 1)

-- how far a list came: behind a second, or to its end, which is the end of all, or as many as are asked for
abbrev pub ReachTo : Reach → ℕ → List Difference → List Difference → Onward → ℕ → AsideEntry → List ℕ
    → Option (List ℕ) → Type 0
ReachTo reach.Onward most all listed behind n entry line after = ListsBehind all listed behind n entry line after
ReachTo reach.Whole most all listed behind n entry line after = listed ≡ take most all

-- the missing ones of a second were listed, or as many differences as are asked for
abbrev pub ToldTo : Reach → ℕ → List Difference → List Difference → List Difference → Type 0
ToldTo reach.Onward most all listed rest = all ≡ listed ++ rest
ToldTo reach.Whole most all listed rest = listed ≡ take most all

-- the differences in all are those that were listed, and those of the notices and entries to come
abbrev pub ListsSeconds : List Difference → List Difference → List Notice → ℕ → AsideEntry → List ℕ → Option (List ℕ)
    → Type 0
ListsSeconds all listed ws n entry line after =
    ListsBehind all listed (λ m ks. differences_by_second (seconds ws) m ks) n entry line after
