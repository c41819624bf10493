-- The office that a database stands for, read from its tables.
use Rattle.std.specs.Prelude.{◌&&◌, Bool, true, false, if◌then◌else◌, List, [], ◌∷◌, map, drop, Option, Some, None}
use Rattle.std.specs.Coded.{coded_list}
use Rattle.sqlite_value.specs.Order.{Row}
use Rattle.sqlite_value.specs.contracts.row.Row as row
use Rattle.sqlite_schema.specs.contracts.schema.Schema as schema
use Rattle.sqlite_keyed.specs.Lists.{sort_by}
use Rattle.sqlite.specs.Effect.{Database}
use Rattle.road_time.specs.declared.day.SpentRow.{SpentRow}
use Rattle.keep_office.specs.declared.kept.DayRecord.{DayRecord}
use Rattle.keep_office.specs.declared.kept.PastRecord.{PastRecord}
use Rattle.keep_office.specs.Office.{Office, row_cmp, nothing_kept}
use Rattle.keep_office.specs.Kept.{sealed, old_office}
use Rattle.keep_tables.specs.Layout.{no_tables, old_tables, all_tables, days_table, spent_table, past_table}
use Rattle.keep_tables.specs.Layout.{day_tariffs_table, tariffs_table, form_table}
use Rattle.keep_tables.specs.Same.{same}
use Rattle.keep_tables.specs.Codec.{day_row, seal_row, old_row, spent_row, tariff_row, version_row, old_from}
use Rattle.keep_tables.specs.Codec.{spent_from, past_from, tariff_from, digest_at}
use Rattle.keep_tables.specs.Stands.{past_rows}
use Rattle.keep_tables.specs.Tests.{is_sound, fits_fields}

-- rows are the same
abbrev pub same_rows : List Row → List Row → Bool
same_rows = same (coded_list row.the_row.coded)

-- the records that rows and seals are, one by one
abbrev pub days_from : List Row → List Row → List DayRecord
days_from [] seals = []
days_from (r ∷ rs) [] = []
days_from (r ∷ rs) (s ∷ ss) = sealed (digest_at s 2) (old_from r) ∷ days_from rs ss

-- the history in rows
abbrev pub past_record_in : List Row → Option PastRecord
past_record_in [] = None
past_record_in (r ∷ rs) = Some (past_from r)

-- the amounts in rows, in order
abbrev pub amounts_in : List Row → List SpentRow
amounts_in rows = sort_by row_cmp (map spent_from rows)

-- each amount is stored as the row that it is
abbrev pub are_amounts : List Row → Bool
are_amounts rows = same_rows (map (drop 1) rows) (map spent_row (map spent_from rows))

-- the office that the tables of version 1 hold, if they hold one
abbrev pub old_in : Database → Office
old_in db =
    old_office (map old_from (db.trees days_table.tree)) (amounts_in (db.trees spent_table.tree))
    (past_record_in (db.trees past_table.tree))

-- the tables of version 1 hold an office
abbrev pub holds_old : Database → Bool
holds_old db =
    same_rows (db.trees days_table.tree) (map old_row (map old_from (db.trees days_table.tree)))
    && (are_amounts (db.trees spent_table.tree)
    && (same_rows (db.trees past_table.tree) (past_rows (past_record_in (db.trees past_table.tree)))
    && (fits_fields (old_in db) && is_sound (old_in db))))

-- the office that all tables hold, if they hold one
abbrev pub all_in : Database → Office
all_in db = record {
  days = days_from (db.trees days_table.tree) (db.trees day_tariffs_table.tree);
  rows = amounts_in (db.trees spent_table.tree);
  past = past_record_in (db.trees past_table.tree);
  tariffs = map tariff_from (db.trees tariffs_table.tree);
}

-- all tables hold one
abbrev pub holds_all : Database → Bool
holds_all db =
    same_rows (db.trees days_table.tree) (map day_row (all_in db).days) && (are_amounts (db.trees spent_table.tree)
    && (same_rows (db.trees past_table.tree) (past_rows (all_in db).past)
    && (same_rows (db.trees day_tariffs_table.tree) (map seal_row (all_in db).days)
    && (same_rows (db.trees tariffs_table.tree) (map tariff_row (all_in db).tariffs)
    && (same_rows (db.trees form_table.tree) (version_row ∷ []) &&
    (fits_fields (all_in db) && is_sound (all_in db)))))))

-- the office that all six tables hold
unfoldable pub whole_in : Database → Option Office
whole_in db =
    if same schema.the_row.coded db.schema all_tables then (if holds_all db then Some (all_in db) else None) else None

-- the office that a database stands for, if it stands for one
unfoldable pub office_in : Database → Option Office
office_in db =
    if same schema.the_row.coded db.schema no_tables then Some nothing_kept
    else if same schema.the_row.coded db.schema old_tables then (if holds_old db then Some (old_in db) else None)
    else whole_in db

-- what is told: the office, where the store is steady
abbrev pub told_in : Bool → Database → Option Office
told_in true db = office_in db
told_in false db = None
