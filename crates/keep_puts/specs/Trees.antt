-- Which trees of a store stand for an office.
use Rattle.std.specs.Prelude.{◌≡◌, ℕ, List, [], ◌∷◌}
use Rattle.sqlite_value.specs.Keys.{plain}
use Rattle.sqlite_trees.specs.declared.store.Shape.{Shape}
use Rattle.sqlite_trees.specs.declared.store.Shape.TheVariants.{Table, Index}
use Rattle.sqlite_trees.specs.Tree.{Trees}
use Rattle.sqlite_sql.specs.Catalog.{IsIndexOf}
use Rattle.sqlite.specs.Effect.{Database}
use Rattle.keep_office.specs.Office.{Office}
use Rattle.keep_tables.specs.Layout.{all_tables}
use Rattle.keep_tables.specs.Stands.{HasOffice}

-- the trees that puts write are tables, and an index in its plain order
pub record AreOurs (shape : ℕ → Shape) : Type 0 where
  pub days : shape 0 ≡ Table
  pub spent : shape 1 ≡ Table
  pub key : shape 2 ≡ Index plain
  pub past : shape 3 ≡ Table
  pub seals : shape 4 ≡ Table
  pub tariffs : shape 5 ≡ Table

-- trees as a database of the six tables
abbrev pub database_of : Trees → Database
database_of trees = record { schema = all_tables; trees = trees }

-- the columns of the key of the amounts
abbrev pub key_columns : List ℕ
key_columns = 1 ∷ 2 ∷ 3 ∷ []

-- trees stand for an office, the index of the amounts included
pub record StandFor (trees : Trees) (o : Office) : Type 0 where
  pub office : HasOffice (database_of trees) o
  pub indexed : IsIndexOf key_columns (trees 1) (trees 2)
