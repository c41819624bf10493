-- What a search in the table of days tells.
use Rattle.std.specs.Prelude.{◌≡◌, ℕ, pos, true, List, [], ◌∷◌, ◌++◌, filter, Option, Some, None}
use Rattle.sqlite_value.specs.declared.value.Value.TheVariants.{Int, Blob}
use Rattle.sqlite_value.specs.Order.{Row, column}
use Rattle.sqlite_trees.specs.Tree.{has_rowid}
use Rattle.sqlite_trees.specs.View.{Finds}
use Rattle.keep_office.specs.declared.kept.DayRecord.{DayRecord}
use Rattle.keep_office.specs.declared.kept.OldRecord.{OldRecord}
use Rattle.keep_office.specs.Kept.{sealed}

-- a day is told but for its seal, or it is not kept
abbrev pub TellsDay : Option DayRecord → Option OldRecord → Type 0
TellsDay None None = Unit {0}
TellsDay None (Some old) = ⊥
TellsDay (Some r) None = ⊥
TellsDay (Some r) (Some old) = sealed r.tariffs old ≡ r

-- a day is the last of some, or there is none
abbrev pub IsLastDay : List DayRecord → Option ℕ → Type 0
IsLastDay days None = days ≡ []
IsLastDay days (Some day) = (before : List DayRecord) × (last : DayRecord) × (days ≡ before ++ last ∷ [])
    × (last.day ≡ day)

-- a row has the values of a day but for its seal
abbrev pub HasOld : Row → OldRecord → Type 0
HasOld row old =
    (column row 2 ≡ Blob old.digest.bytes) × (column row 3 ≡ Int (pos old.bytes))
    × (column row 4 ≡ Int (pos old.tuples)) × (column row 5 ≡ Int (pos old.notices))
    × (column row 6 ≡ Blob old.notices_digest.bytes) × (column row 7 ≡ Int (pos old.total))

-- what is told of a day but for its seal is its row's
pub record IsOldOf (days : List Row) (day : ℕ) (old : OldRecord) : Type 0 where
  pub number : old.day ≡ day
  pub row : Row
  pub found : Finds days (pos day) row true
  pub has : HasOld row old

-- a day is told but for its seal as its row has it, and as not kept only where it has no row
abbrev pub IsToldOld : List Row → ℕ → Option OldRecord → Type 0
IsToldOld days day None = filter (has_rowid (pos day)) days ≡ []
IsToldOld days day (Some old) = IsOldOf days day old
