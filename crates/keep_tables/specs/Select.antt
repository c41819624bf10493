-- What the texts of statements are understood as: queries, and rows that are put or taken away.
use Rattle.std.specs.Prelude.{ℕ, Bool, true, false, List, [], ◌∷◌, None, pos, negsuc, codes}
use Rattle.std.specs.List.{list_all}
use Rattle.sqlite_value.specs.declared.value.Value.TheVariants.{Int, Null}
use Rattle.sqlite_value.specs.declared.keys.Collation.TheVariants.{Binary}
use Rattle.sqlite_value.specs.declared.keys.Key.{Key}
use Rattle.sqlite_value.specs.Order.{Row}
use Rattle.sqlite_sql.specs.Term.{Term, lit, col, op2, holds}
use Rattle.sqlite_sql.specs.Query.{Query, inner, end}
use Rattle.sqlite_sql.specs.declared.ops.BinaryOp.TheVariants.{Compare}
use Rattle.sqlite_sql.specs.declared.ops.CompareOp.{CompareOp}
use Rattle.sqlite_sql.specs.declared.ops.CompareOp.TheVariants.{Eq, Ge, Le}
use Rattle.sqlite_schema.specs.declared.command.Command.{Command}
use Rattle.sqlite_schema.specs.declared.command.Command.TheVariants.{Select, Insert, Delete}
use Rattle.sqlite_schema.specs.declared.command.Source.TheVariants.{Values}

-- all rows of one table that pass some tests, with what is shown of each, in an order
abbrev pub plain : ℕ → List Term → List Term → List (Term × Key) → Query
plain table tests shown order = record {
  from = inner table end;
  filter = tests;
  group = None;
  project = shown;
  distinct = false;
  collations = [];
  order = order;
  limit = lit (Int (negsuc 0));
  offset = lit (Int (pos 0));
}

-- a row passes all tests
abbrev pub passes : List Term → Row → Row → Bool
passes tests params row = list_all (holds (params ∷ row ∷ [])) tests

-- a column of the row
abbrev pub place : ℕ → Term
place at = col 1 at

-- a parameter of the statement
abbrev pub param_at : ℕ → Term
param_at at = col 0 at

-- a column stands so to a parameter
abbrev pub stands_to : CompareOp → ℕ → ℕ → Term
stands_to how at param = op2 (Compare how Binary) (place at) (param_at param)

-- rising, by a column
abbrev pub rising : ℕ → Term × Key
rising at = (place at, record { collation = Binary; descending = false })

-- falling, by a column
abbrev pub falling : ℕ → Term × Key
falling at = (place at, record { collation = Binary; descending = true })

-- the first row alone
abbrev pub topmost : ℕ → List Term → List (Term × Key) → Query
topmost table shown order = record (plain table [] shown order) { limit = lit (Int (pos 1)) }

-- the key is 1
abbrev pub is_one : Term
is_one = op2 (Compare Eq Binary) (place 0) (lit (Int (pos 1)))

-- the query for an amount
abbrev pub spent_query : Query
spent_query = plain 1 (stands_to Eq 1 0 ∷ stands_to Eq 2 1 ∷ stands_to Eq 3 2 ∷ []) (place 4 ∷ []) []

-- the query for the amounts of some days
abbrev pub rows_query : Query
rows_query =
    plain 1 (stands_to Ge 1 0 ∷ stands_to Le 1 1 ∷ []) (place 1 ∷ place 2 ∷ place 3 ∷ place 4 ∷ []) (rising 1 ∷
    rising 2 ∷ rising 3 ∷ [])

-- the query for all tariffs
abbrev pub tariffs_query : Query
tariffs_query = plain 5 [] (place 0 ∷ place 2 ∷ place 3 ∷ place 4 ∷ []) (rising 0 ∷ [])

-- the query for the numbers of the rows of an expressway's tariff
abbrev pub tariff_ids : Query
tariff_ids = plain 5 (stands_to Eq 0 0 ∷ []) (place 0 ∷ []) []

-- the values of a tariff
abbrev pub tariff_values : List Term
tariff_values = param_at 0 ∷ lit Null ∷ param_at 1 ∷ param_at 2 ∷ param_at 3 ∷ []

-- the statement that asks for an amount
abbrev pub spent_compiled : Command
spent_compiled = Select (record { lets = []; body = spent_query }) (codes "tolls" ∷ [])

-- the statement that asks for the amounts of some days
abbrev pub rows_compiled : Command
rows_compiled =
    Select (record { lets = []; body = rows_query }) (codes "day" ∷ codes "vid" ∷ codes "xway" ∷ codes "tolls" ∷ [])

-- the statement that asks for all tariffs
abbrev pub tariffs_compiled : Command
tariffs_compiled =
    Select (record { lets = []; body = tariffs_query })
    (codes "xway" ∷ codes "crowd" ∷ codes "speed" ∷ codes "factor" ∷ [])

-- a tariff is taken away
abbrev pub drop_compiled : Command
drop_compiled = Delete 4 (record { lets = []; body = tariff_ids })

-- a tariff is put
abbrev pub put_compiled : Command
put_compiled = Insert 4 (Values tariff_values 5)

-- the query for the amounts of a vehicle on some days
abbrev pub vehicle_query : Query
vehicle_query =
    plain 1 (stands_to Eq 2 0 ∷ stands_to Ge 1 1 ∷ stands_to Le 1 2 ∷ []) (place 1 ∷ place 2 ∷ place 3 ∷ place 4 ∷
    []) (rising 1 ∷ rising 2 ∷ rising 3 ∷ [])

-- the query for the last day
abbrev pub last_query : Query
last_query = topmost 0 (place 0 ∷ []) (falling 0 ∷ [])

-- the query for a day
abbrev pub day_query : Query
day_query = plain 0 (stands_to Eq 0 0 ∷ []) (place 2 ∷ place 3 ∷ place 4 ∷ place 5 ∷ place 6 ∷ place 7 ∷ []) []

-- the query for the seal of a day
abbrev pub seal_query : Query
seal_query = plain 4 (stands_to Eq 0 0 ∷ []) (place 2 ∷ []) []

-- the query for the history
abbrev pub past_query : Query
past_query = plain 3 (is_one ∷ []) (place 2 ∷ place 3 ∷ place 4 ∷ place 5 ∷ []) []

-- the query for all days
abbrev pub days_query : Query
days_query = plain 0 [] (place 0 ∷ []) (rising 0 ∷ [])

-- the query for the version
abbrev pub version_query : Query
version_query = plain 6 (is_one ∷ []) (place 2 ∷ []) []

-- a query as a command, with the names of its columns
abbrev pub asks_by : Query → List (List ℕ) → Command
asks_by q names = Select (record { lets = []; body = q }) names

-- a day is put
abbrev pub day_compiled : Command
day_compiled = Insert 0 (Values (param_at 0 ∷ lit Null ∷ param_at 1 ∷ param_at 2 ∷ param_at 3 ∷ param_at 4 ∷ param_at 5
    ∷ param_at 6 ∷ []) 8)

-- a seal is put
abbrev pub seal_compiled : Command
seal_compiled = Insert 3 (Values (param_at 0 ∷ lit Null ∷ param_at 1 ∷ []) 3)

-- a history is put
abbrev pub past_compiled : Command
past_compiled = Insert 2 (Values (lit (Int (pos 1)) ∷ lit Null ∷ param_at 0 ∷ param_at 1 ∷ param_at 2 ∷ param_at 3 ∷
    []) 6)

-- the version is put
abbrev pub version_compiled : Command
version_compiled = Insert 5 (Values (lit (Int (pos 1)) ∷ lit Null ∷ lit (Int (pos 2)) ∷ []) 3)
