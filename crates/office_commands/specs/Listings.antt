-- A list of differences on its way.
use Rattle.std.specs.Prelude.{ℕ, ◌≡◌, ◌+◌, ◌<◌, ◌≤◌, nat_le, List, [], ◌∷◌, ◌++◌, length, drop, Option, Some, None}
use Rattle.std.specs.Prelude.{if◌then◌else◌, Bool, true, false}
use Rattle.road_time.specs.declared.road.Notice.{Notice}
use Rattle.road_io.specs.declared.cutter.LineCutter.{LineCutter}
use Rattle.road_io.specs.Cutter.{line_of, line_number, fault_of}
use Rattle.office_commands.specs.declared.aside.AsideEntry.{AsideEntry}
use Rattle.office_commands.specs.declared.aside.AsideEntry.TheVariants.{Line, Long, End}
use Rattle.office_commands.specs.declared.difference.Difference.{Difference}
use Rattle.office_commands.specs.declared.listing.Step.{Step}
use Rattle.office_commands.specs.declared.listing.Step.TheVariants.{Passed, Stayed, Ended}
use Rattle.office_commands.specs.Differences.{differences}
use Rattle.office_commands.specs.Entries.{entered, most_compared}

-- where a line is current, no fault stopped the cutter, the line is short, and at most so many lines were cut
abbrev pub IsReady : AsideEntry → LineCutter → ℕ → Type 0
IsReady Line c most = (fault_of c ≡ None) × (length (line_of c) ≤ 200) × (line_number c ≤ most)
IsReady _ c most = Unit {0}

-- the entries that are still to be compared: the current one and those of the bytes that lie ahead
abbrev pub StandsAt : AsideEntry → List ℕ → Option (List ℕ) → List (List ℕ) → Type 0
StandsAt Line line after entries =
    (now : List ℕ) × (after ≡ Some now) × (length line ≤ 200) × (entries ≡ line ∷ entered now)
StandsAt Long line after entries =
    (first : List ℕ) × (rest : List (List ℕ)) × (200 < length first) × (entries ≡ first ∷ rest)
StandsAt End line after entries = entries ≡ []

-- the differences in all are those that were listed, and those of the notices and entries to come
abbrev pub ListsOn : List Difference → List Difference → List Notice → ℕ → AsideEntry → List ℕ → Option (List ℕ) →
    Type 0
ListsOn all listed ws n entry line after =
    (entries : List (List ℕ)) × StandsAt entry line after entries × (all ≡ listed ++ differences ws n entries)

-- after a step: behind the notice, at the same notice, or nothing is left to list
abbrev pub StepsTo : Step → List Difference → List Difference → List Notice → ℕ → AsideEntry → List ℕ →
    Option (List ℕ) → Type 0
StepsTo Passed all listed ws n entry line after = ListsOn all listed (drop 1 ws) n entry line after
StepsTo Stayed all listed ws n entry line after = ListsOn all listed ws n entry line after
StepsTo Ended all listed ws n entry line after = all ≡ listed

-- how many notices there were, and how many differences were listed before and are now: with each step there is a
-- notice less or a difference more
abbrev pub StepCounts : Step → ℕ → ℕ → ℕ → Type 0
StepCounts Passed notices before now = (1 ≤ notices) × (before ≤ now) × (now ≤ before + 1)
StepCounts Stayed notices before now = now ≡ before + 1
StepCounts Ended notices before now = now ≤ before + 1

-- the most that an aside is read where so many differences are told: where more than one, or notices of a second may
-- stand in any order, as many lines more
abbrev pub most_listed : Bool → ℕ → ℕ → ℕ
most_listed true show notices = most_compared (notices + show)
most_listed false show notices = if nat_le show 1 then most_compared notices else most_compared (notices + show)
