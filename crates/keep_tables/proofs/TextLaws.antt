-- What the texts are understood as.
use Rattle.std.proofs.Common.{◌≡◌, refl, Ok}
use Rattle.sqlite_tied.specs.Compute.{everything}
use Rattle.sqlite_resolve.specs.Compile.{table_defined_by}
use Rattle.sqlite_catalog.specs.Change.{created}
use Rattle.keep_tables.specs.Layout.{days_table, spent_table, past_table, day_tariffs_table, tariffs_table, form_table}
use Rattle.keep_tables.specs.Layout.{no_tables, old_tables, all_tables}
use Rattle.std.specs.Fmt.{digits}
use Rattle.keep_tables.specs.Texts.{make_days, make_spent, make_past, make_day_tariffs, make_tariffs, make_form}

-- the text of the days
pub days_made : table_defined_by make_days ≡ Ok days_table
unfolding everything
days_made = refl

-- of the amounts
pub spent_made : table_defined_by make_spent ≡ Ok (record spent_table { tree = 0 })
unfolding everything
spent_made = refl

-- of the history
pub past_made : table_defined_by make_past ≡ Ok (record past_table { tree = 0 })
unfolding everything
past_made = refl

-- of the seals
pub day_tariffs_made : table_defined_by make_day_tariffs ≡ Ok (record day_tariffs_table { tree = 0 })
unfolding everything
day_tariffs_made = refl

-- of the tariffs
pub tariffs_made : table_defined_by make_tariffs ≡ Ok (record tariffs_table { tree = 0 })
unfolding everything
tariffs_made = refl

-- of the version
pub form_made : table_defined_by make_form ≡ Ok (record form_table { tree = 0 })
unfolding everything
form_made = refl

-- made one after another they are the tables
pub old_made : created (created (created no_tables days_table) spent_table) past_table ≡ old_tables
unfolding digits
old_made = refl

-- all six
pub all_made : created (created (created old_tables day_tariffs_table) tariffs_table) form_table ≡ all_tables
unfolding digits
all_made = refl
