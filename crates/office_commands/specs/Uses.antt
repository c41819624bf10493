-- What a run has a use for, by what its words ask.
use Rattle.std.specs.Prelude.{ℕ, ◌≡◌, ◌≤◌, ◌⊎◌, Bool, true, false, List, length, map, Option, Some, None, String}
use Rattle.std.specs.Prelude.{string_bytes}
use Rattle.std.specs.Global.{Global}
use Rattle.road_time.specs.declared.road.Tuple.{Tuple}
use Rattle.road_time.specs.declared.day.Limits.{Limits}
use Rattle.keep_office.specs.Office.{Office, record_of, last_day}
use Rattle.keep_office.specs.Kept.{with_tariff_of}
use Rattle.day_reading.specs.Days.{most_of_day}
use Rattle.day_import.specs.Imports.{most_imported, PutsOnce}
use Rattle.day_past.specs.Imports.{NeedsNone, PutsPast, most_kept}
use Rattle.office_words.specs.Meaning.{means}
use Rattle.office_words.specs.declared.command.Command.{Command}
use Rattle.office_words.specs.declared.command.Command.TheVariants as command
use Rattle.office_words.specs.declared.command.Comparison.{Comparison}
use Rattle.office_words.specs.declared.command.Recomputing.TheVariants.{Plainly}
use Rattle.office_commands.specs.Days.{recomputed, in_bulk}
use Rattle.office_commands.specs.Commands.{notices_of_day, compared_tuples}
use Rattle.office_commands.specs.Listings.{most_listed}
use Rattle.day_reading.specs.Checking.{most_checked}

-- what words ask for, if they ask for a command
abbrev pub asked : List (String Global) → Option Command
asked words = means (map string_bytes words)

-- whether a run has a use for the source, the aside, the keeper and the crew, and whether it is to change what is kept
pub record Uses : Type 0 where
  pub source : Bool
  pub aside : Bool
  pub keeper : Bool
  pub crew : Bool
  pub changes : Bool

-- a use for nothing
abbrev pub nothing : Uses
nothing = record { source = false; aside = false; keeper = false; crew = false; changes = false }

-- what words have a use for, by the command that they ask for
abbrev pub uses : Option Command → Uses
uses (Some (command.Answers run)) = record nothing { source = true; keeper = true; crew = true }
uses (Some (command.Import run)) = record nothing { source = true; keeper = true; crew = true; changes = true }
uses (Some (command.Compare asked)) =
    record nothing { source = true; aside = true; keeper = true; crew = in_bulk asked.how }
uses (Some (command.Past base)) = record nothing { source = true; keeper = true; changes = true }
uses (Some (command.Day number)) = record nothing { keeper = true }
uses (Some (command.Vehicle vid from to)) = record nothing { keeper = true }
uses (Some (command.Accidents late)) = record nothing { source = true }
uses (Some (command.Export number)) = record nothing { keeper = true }
uses (Some (command.Tariff xway crowd speed factor)) = record nothing { keeper = true; changes = true }
uses (Some command.Tariffs) = record nothing { keeper = true }
uses (Some (command.Generate seed size)) = nothing
uses (Some (command.Rehearse seed size run)) = record nothing { crew = true }
uses (Some command.Days) = record nothing { keeper = true }
uses (Some (command.Charges from to)) = record nothing { keeper = true }
uses (Some (command.Check day late)) = record nothing { source = true }
uses None = nothing

-- whether a command has a use for the source
abbrev pub uses_source : Option Command → Bool
uses_source meant = (uses meant).source

-- whether a command has a use for the aside
abbrev pub uses_aside : Option Command → Bool
uses_aside meant = (uses meant).aside

-- whether a command has a use for the keeper
abbrev pub uses_keeper : Option Command → Bool
uses_keeper meant = (uses meant).keeper

-- whether a command has a use for the crew
abbrev pub uses_crew : Option Command → Bool
uses_crew meant = (uses meant).crew

-- whether a command is to change what is kept
abbrev pub changes_kept : Option Command → Bool
changes_kept meant = (uses meant).changes

-- a crew answers what is found by the rules, where it is used
abbrev pub IsRightCrew : Option Command → Bool → Type 0
IsRightCrew meant exact = uses_crew meant ≡ true → exact ≡ true

-- where crew and aside are both used, the crew answers what is found by the rules
abbrev pub IsRightAside : Option Command → Bool → Type 0
IsRightAside meant exact = uses_aside meant ≡ true → IsRightCrew meant exact

-- a source tells its bytes, where it is used
abbrev pub SourceTells : Option Command → Option (List ℕ) → List ℕ → Type 0
SourceTells meant left bytes = uses_source meant ≡ true → left ≡ Some bytes

-- an aside tells its bytes, where it is used
abbrev pub AsideTells : Option Command → Option (List ℕ) → List ℕ → Type 0
AsideTells meant left bytes = uses_aside meant ≡ true → left ≡ Some bytes

-- a keeper tells what it keeps, where it is used
abbrev pub KeeperTells : Option Command → Option Office → Office → Type 0
KeeperTells meant kept o = uses_keeper meant ≡ true → kept ≡ Some o

-- what is used is told, and the crew is right
pub record IsTold (meant : Option Command) (exact : Bool) (source aside : Option (List ℕ)) (kept : Option Office)
    (bytes lines : List ℕ) (o : Office) : Type 0 where
  pub right : IsRightCrew meant exact
  pub source_is : SourceTells meant source bytes
  pub aside_is : AsideTells meant aside lines
  pub kept_is : KeeperTells meant kept o

-- a day is not kept, and none later is to be
abbrev pub IsPassed : ℕ → Office → Type 0
IsPassed number o = (record_of o number ≡ None) × (number ≤ last_day o)

-- the import of a passed day, or a history of another base than the kept one, or after a day: none needs the source
abbrev pub AsksPassed : Option Command → Office → Type 0
AsksPassed (Some (command.Import run)) o = IsPassed run.day o
AsksPassed (Some (command.Past base)) o = NeedsNone o.past base o
AsksPassed _ o = ⊥

-- the import of a day leaves what is kept as it was, or with that day, a history with that history, and a tariff with
-- that tariff
abbrev pub PutsAsked : Option Command → Office → Option Office → Type 0
PutsAsked (Some (command.Import run)) was now = PutsOnce run.day was now
PutsAsked (Some (command.Past base)) was now = PutsPast base was now
PutsAsked (Some (command.Tariff xway crowd speed factor)) was now =
    (now ≡ Some was) ⊎ (now ≡ Some (with_tariff_of xway (record { crowd = crowd; speed = speed; factor = factor }) was))
PutsAsked _ was now = Unit {0}

-- the most that is read of an aside with which a day's notices are compared
abbrev pub most_noticed : Comparison → List Tuple → Office → ℕ
most_noticed asked tuples o =
    most_listed asked.any_order asked.show (length (notices_of_day asked.day tuples o))

-- the most that words have read of the source
abbrev pub most_of : Limits → Office → Option Command → ℕ
most_of limits o (Some (command.Answers run)) = most_of_day limits
most_of limits o (Some (command.Import run)) = most_imported (record_of o run.day) limits
most_of limits o (Some (command.Compare asked)) = most_of_day (recomputed asked.how limits)
most_of limits o (Some (command.Past base)) = most_kept o.past limits
most_of limits o (Some (command.Accidents late)) = most_of_day (recomputed Plainly limits)
most_of limits o (Some (command.Check day late)) = most_checked
most_of limits o _ = 0

-- the most that words have read of the aside
abbrev pub most_aside_of : Limits → List ℕ → Office → Option Command → ℕ
most_aside_of limits bytes o (Some (command.Compare asked)) =
    most_noticed asked (compared_tuples limits asked bytes) o
most_aside_of limits bytes o _ = 0
