-- Which database stands for which office: one with no tables, with those of version 1, or with all in version 2.
use Rattle.std.specs.Prelude.{◌≡◌, ◌⊎◌, ◌<◌, ◌^◌, ℕ, List, [], ◌∷◌, ◌++◌, map, drop, length, Option, Some, None, IfSome}
use Rattle.std.specs.Prelude.{IsPermutation}
use Rattle.std.specs.List.{AllByRecursion}
use Rattle.std.specs.Ordering.{nat_cmp}
use Rattle.std.specs.Map.{lookup}
use Rattle.std.specs.BTreeMap.{is_at}
use Rattle.sqlite_value.specs.Order.{Row}
use Rattle.sqlite.specs.Effect.{Database}
use Rattle.road_time.specs.declared.day.SpentRow.{SpentRow}
use Rattle.road_time.specs.Rates.{Tariffs}
use Rattle.road_digest.specs.declared.digest.Digest.{Digest}
use Rattle.keep_office.specs.declared.kept.DayRecord.{DayRecord}
use Rattle.keep_office.specs.declared.kept.OldRecord.{OldRecord}
use Rattle.keep_office.specs.declared.kept.PastRecord.{PastRecord}
use Rattle.keep_office.specs.Office.{Office, IsSound, nothing_kept}
use Rattle.keep_office.specs.Kept.{old_office, sealed, seal_of}
use Rattle.keep_tables.specs.Layout.{no_tables, old_tables, all_tables, days_table, spent_table, spent_key, past_table}
use Rattle.keep_tables.specs.Layout.{day_tariffs_table, tariffs_table, form_table}
use Rattle.keep_tables.specs.Codec.{day_row, seal_row, old_row, spent_row, past_row, tariff_row, version_row}

-- a digest has 32 bytes
abbrev pub IsWholeDigest : Digest → Type 0
IsWholeDigest d = (length d.bytes ≡ 32) × AllByRecursion (λ b. b < 256) d.bytes

-- the numbers and digests of a day fit its fields
pub record FitsDay (r : DayRecord) : Type 0 where
  pub day : r.day < 2 ^ 32
  pub bytes : r.bytes < 2 ^ 63
  pub tuples : r.tuples < 2 ^ 63
  pub notices : r.notices < 2 ^ 63
  pub total : r.total < 2 ^ 63
  pub digest : IsWholeDigest r.digest
  pub told : IsWholeDigest r.notices_digest
  pub seal : IsWholeDigest r.tariffs

-- the numbers of an amount fit its fields
abbrev pub FitsSpent : SpentRow → Type 0
FitsSpent r = (r.day < 2 ^ 32) × (r.vid < 2 ^ 32) × (r.xway < 2 ^ 8) × (r.tolls < 2 ^ 63)

-- the numbers and the digest of a history fit its fields
abbrev pub FitsPast : PastRecord → Type 0
FitsPast p = (p.base < 2 ^ 32) × (p.bytes < 2 ^ 63) × (p.rows < 2 ^ 63) × IsWholeDigest p.digest

-- all that an office keeps fits its fields
pub record FitsFields (o : Office) : Type 0 where
  pub days : AllByRecursion FitsDay o.days
  pub rows : AllByRecursion FitsSpent o.rows
  pub past : IfSome o.past FitsPast
  pub tariffs : AllByRecursion (λ e. e.0 < 2 ^ 8) o.tariffs

-- the rows of a history, if one is kept
abbrev pub past_rows : Option PastRecord → List Row
past_rows None = []
past_rows (Some p) = past_row p ∷ []

-- amounts are kept in any order, each with a number of its own before its columns
abbrev pub AreAmountRows : List SpentRow → List Row → Type 0
AreAmountRows rows kept = IsPermutation (map spent_row rows) (map (drop 1) kept)

-- the three tables of version 1 alone are there, and hold these
pub record HoldsOld (db : Database) (records : List OldRecord) (rows : List SpentRow) (history : Option PastRecord) :
    Type 0 where
  pub schema : db.schema ≡ old_tables
  pub days_are : db.trees days_table.tree ≡ map old_row records
  pub rows_are : AreAmountRows rows (db.trees spent_table.tree)
  pub past_is : db.trees past_table.tree ≡ past_rows history

-- the tables of version 1 hold what an office was before tariffs were, which fits its fields and is sound
pub record HasOld (db : Database) (o : Office) : Type 0 where
  pub records : List OldRecord
  pub rows : List SpentRow
  pub history : Option PastRecord
  pub tables : HoldsOld db records rows history
  pub office : o ≡ old_office records rows history
  pub fits : FitsFields o
  pub sound : IsSound o

-- what six tables hold: the records of days, the days that have their seal, amounts, a history and tariffs
pub record Contents : Type 0 where
  pub days : List DayRecord
  pub sealed : List DayRecord
  pub rows : List SpentRow
  pub past : Option PastRecord
  pub tariffs : Tariffs

-- what tables hold, with one record of a day more
abbrev pub with_record : DayRecord → Contents → Contents
with_record r c = record c { days = c.days ++ r ∷ [] }

-- what tables hold, with one seal more
abbrev pub with_seal : DayRecord → Contents → Contents
with_seal r c = record c { sealed = c.sealed ++ r ∷ [] }

-- what tables hold, with a history
abbrev pub with_history : PastRecord → Contents → Contents
with_history p c = record c { past = Some p }

-- what tables hold, with more amounts
abbrev pub with_rows : List SpentRow → Contents → Contents
with_rows rows c = record c { rows = c.rows ++ rows }

-- what the tables of version 1 hold, in six tables, before a day has its seal
abbrev pub unsealed : List OldRecord → List SpentRow → Option PastRecord → Contents
unsealed records rows history = record {
  days = map (sealed (seal_of [])) records;
  sealed = [];
  rows = rows;
  past = history;
  tariffs = [];
}

-- all six tables are there, with these rows for their version, and hold this
pub record HoldsAs (version_is : List Row) (db : Database) (c : Contents) : Type 0 where
  pub schema : db.schema ≡ all_tables
  pub days_are : db.trees days_table.tree ≡ map day_row c.days
  pub rows_are : AreAmountRows c.rows (db.trees spent_table.tree)
  pub past_is : db.trees past_table.tree ≡ past_rows c.past
  pub seals_are : db.trees day_tariffs_table.tree ≡ map seal_row c.sealed
  pub tariffs_are : db.trees tariffs_table.tree ≡ map tariff_row c.tariffs
  pub version : db.trees form_table.tree ≡ version_is

-- all six tables are there in version 2, and hold this
abbrev pub Holds : Database → Contents → Type 0
Holds db c = HoldsAs (version_row ∷ []) db c

-- one table has these rows afterwards, and the others what they had
pub record Changes (tree : ℕ) (after : List Row) (old new : Database) : Type 0 where
  pub schema : new.schema ≡ all_tables
  pub rows : new.trees tree ≡ after
  pub others : (t : ℕ) → (t ≡ tree → ⊥) → (spent_key.tree ≡ t → ⊥) → new.trees t ≡ old.trees t

-- what the tables hold of an office
abbrev pub contents_of : Office → Contents
contents_of o = record { days = o.days; sealed = o.days; rows = o.rows; past = o.past; tariffs = o.tariffs }

-- the tables hold an office, which may be any
abbrev pub HasTables : Database → Office → Type 0
HasTables db o = Holds db (contents_of o)

-- the tables hold an office that fits its fields and is sound
pub record HasOffice (db : Database) (o : Office) : Type 0 where
  pub tables : HasTables db o
  pub fits : FitsFields o
  pub sound : IsSound o

-- an empty database, and an empty office
abbrev pub HasNothing : Database → Office → Type 0
HasNothing db o = (db.schema ≡ no_tables) × (o ≡ nothing_kept)

-- a database stands for an office
abbrev pub StandsForOffice : Database → Office → Type 0
StandsForOffice db o = HasNothing db o ⊎ (HasOld db o ⊎ HasOffice db o)

-- a database stands for no office
abbrev pub StandsForNone : Database → Type 0
StandsForNone db = (o : Office) → ¬ StandsForOffice db o

-- an expressway has no tariff of its own
abbrev pub LacksTariff : ℕ → Office → Type 0
LacksTariff xway o = lookup (is_at (nat_cmp xway)) o.tariffs ≡ None
