-- The tables of an office, in version 1 and in version 2.
use Rattle.std.specs.Prelude.{ℕ, Bool, true, false, List, [], ◌∷◌, Some, None, codes, pos}
use Rattle.sqlite_value.specs.declared.value.Value.TheVariants.{Null, Int}
use Rattle.sqlite_value.specs.declared.keys.Collation.TheVariants.{Binary}
use Rattle.sqlite_sql.specs.Term.{Term, lit, col, op2}
use Rattle.sqlite_sql.specs.declared.ops.BinaryOp.TheVariants.{Compare}
use Rattle.sqlite_sql.specs.declared.ops.CompareOp.TheVariants.{Eq}
use Rattle.sqlite_schema.specs.declared.schema.Column.{Column}
use Rattle.sqlite_schema.specs.declared.schema.Table.{Table}
use Rattle.sqlite_schema.specs.declared.schema.Index.{Index}
use Rattle.sqlite_schema.specs.declared.schema.Schema.{Schema}
use Rattle.sqlite_schema.specs.declared.schema.Kind.{Kind}
use Rattle.sqlite_schema.specs.declared.schema.Kind.TheVariants.{Integer, Blob}

-- a column of a strict table
abbrev pub column_of : List ℕ → Kind → Bool → Column
column_of name kind required = record {
  name = name;
  kind = kind;
  is_strict = true;
  not_null = required;
  default = Null;
  collation = Binary;
}

-- a column of numbers that is the key
abbrev pub key_column : List ℕ → Column
key_column name = column_of name Integer false

-- a column of numbers
abbrev pub number_column : List ℕ → Column
number_column name = column_of name Integer true

-- a column of bytes
abbrev pub bytes_column : List ℕ → Column
bytes_column name = column_of name Blob true

-- a table whose first column is its key, with its checks
abbrev pub keyed : List ℕ → ℕ → List Column → List Term → Table
keyed name tree columns checks = record {
  name = name;
  tree = tree;
  columns = columns;
  key = Some 0;
  primary = 0 ∷ [];
  uniques = [];
  orders = [];
  checks = checks;
  references = [];
  computed = [];
  stamps = record { places = []; terms = []; formats = [] };
  is_counted = false;
}

-- the key is 1, so the table has one row at most
abbrev pub only_one : List Term
only_one = op2 (Compare Eq Binary) (col 1 0) (lit (Int (pos 1))) ∷ []

-- the records of days
abbrev pub days_table : Table
days_table = keyed (codes "days") 0
    (key_column (codes "day") ∷ bytes_column (codes "digest") ∷ number_column (codes "bytes") ∷
    number_column (codes "tuples") ∷
    number_column (codes "notices") ∷ bytes_column (codes "notices_digest") ∷ number_column (codes "total") ∷ []) []

-- amounts, whose key is made of three columns, so that each row has a number that no column shows
abbrev pub spent_table : Table
spent_table = record {
  name = codes "spent";
  tree = 1;
  columns = number_column (codes "day") ∷ number_column (codes "vid") ∷ number_column (codes "xway") ∷
      number_column (codes "tolls") ∷ [];
  key = None;
  primary = 1 ∷ 2 ∷ 3 ∷ [];
  uniques = (1 ∷ 2 ∷ 3 ∷ []) ∷ [];
  orders = (record { digits = 0 }) ∷ [];
  checks = [];
  references = [];
  computed = [];
  stamps = record { places = []; terms = []; formats = [] };
  is_counted = false;
}

-- the index of that key
abbrev pub spent_key : Index
spent_key = record {
  name = codes "sqlite_autoindex_spent_1";
  tree = 2;
  table = 1;
  columns = 1 ∷ 2 ∷ 3 ∷ [];
  order = record { digits = 0 };
  is_unique = true;
}

-- the record of a history
abbrev pub past_table : Table
past_table = keyed (codes "past") 3
    (key_column (codes "one") ∷ number_column (codes "base") ∷ bytes_column (codes "digest") ∷
    number_column (codes "bytes") ∷
    number_column (codes "rows_kept") ∷ []) only_one

-- the seals of the tariffs that days were charged under
abbrev pub day_tariffs_table : Table
day_tariffs_table = keyed (codes "day_tariffs") 4 (key_column (codes "day") ∷ bytes_column (codes "digest") ∷ []) []

-- tariffs
abbrev pub tariffs_table : Table
tariffs_table =
    keyed (codes "tariffs") 5 (key_column (codes "xway") ∷ number_column (codes "crowd") ∷
    number_column (codes "speed") ∷
    number_column (codes "factor") ∷ []) []

-- the version of the tables
abbrev pub form_table : Table
form_table = keyed (codes "form") 6 (key_column (codes "one") ∷ number_column (codes "version") ∷ []) only_one

-- no tables
abbrev pub no_tables : Schema
no_tables = record { tables = []; indexes = []; views = [] }

-- the tables of version 1
abbrev pub old_tables : Schema
old_tables = record { tables = days_table ∷ spent_table ∷ past_table ∷ []; indexes = spent_key ∷ []; views = [] }

-- the tables of version 2
abbrev pub all_tables : Schema
all_tables = record {
  tables = days_table ∷ spent_table ∷ past_table ∷ day_tariffs_table ∷ tariffs_table ∷ form_table ∷ [];
  indexes = spent_key ∷ [];
  views = [];
}
