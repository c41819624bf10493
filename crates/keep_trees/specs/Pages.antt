-- When pages stand for an office.
use Rattle.std.specs.Prelude.{◌≡◌, ◌⊎◌, ℕ, pos, true, List, [], ◌∷◌, codes}
use Rattle.sqlite_disk.specs.Disk.{MoreFaults}
use Rattle.sqlite_value.specs.declared.value.Value.TheVariants.{Null, Int, Text}
use Rattle.sqlite_value.specs.Order.{Row, column}
use Rattle.sqlite_value.specs.Keys.{plain}
use Rattle.sqlite_trees.specs.declared.store.Shape.TheVariants.{Table, Index}
use Rattle.sqlite_trees.specs.View.{Finds}
use Rattle.sqlite_pages.specs.PageMap.{PageMap}
use Rattle.sqlite_pages.specs.declared.pages.Pages.{Ghosts}
use Rattle.sqlite_store.specs.declared.catalog.Wanted.{Wanted}
use Rattle.sqlite_store.specs.Db.{IsDb, roots_of, trees_in}
use Rattle.sqlite_sql.specs.Catalog.{IsIndexOf}
use Rattle.sqlite.specs.Effect.{Database}
use Rattle.keep_office.specs.Office.{Office}
use Rattle.keep_tables.specs.Layout.{all_tables}
use Rattle.keep_tables.specs.Texts.{make_days, make_spent, make_past, make_day_tariffs, make_tariffs, make_form}
use Rattle.keep_tables.specs.Stands.{HasOffice}
use Rattle.keep_trees.specs.declared.roots.Roots.{Roots}

-- a table as sqlite_schema has to list it
abbrev pub table_listed : List ℕ → List ℕ → Wanted
table_listed name text = record
    { shape = Table; reals = 0; row = Text (codes "table") ∷ Text name ∷ Text name ∷ Text text ∷ [] }

-- the index of the amounts, which a constraint makes
abbrev pub listed_key : Wanted
listed_key = record {
  shape = Index plain;
  reals = 0;
  row = Text (codes "index") ∷ Text (codes "sqlite_autoindex_spent_1") ∷ Text (codes "spent") ∷ Null ∷ [];
}

-- the trees of version 2, each at its number
abbrev pub our_trees : List Wanted
our_trees =
    table_listed (codes "days") make_days ∷ table_listed (codes "spent") make_spent ∷ listed_key ∷
    table_listed (codes "past") make_past ∷ table_listed (codes "day_tariffs") make_day_tariffs ∷
    table_listed (codes "tariffs") make_tariffs ∷ table_listed (codes "form") make_form ∷ []

-- the database that pages read as
abbrev pub database_in : ℕ → PageMap → Database
database_in size pages = record { schema = all_tables; trees = trees_in size our_trees pages }

-- the pages that trees begin at, in the order of their numbers
abbrev pub root_list : Roots → List ℕ
root_list r = r.days ∷ r.spent ∷ r.spent_key ∷ r.past ∷ r.seals ∷ r.tariffs ∷ r.form ∷ []

-- pages are a database whose trees stand for an office, the index of the amounts included
pub record HoldOffice (size : ℕ) (pages : PageMap) (o : Office) : Type 0 where
  pub db : IsDb size our_trees pages
  pub office : HasOffice (database_in size pages) o
  pub indexed : IsIndexOf (1 ∷ 2 ∷ 3 ∷ []) (trees_in size our_trees pages 1) (trees_in size our_trees pages 2)

-- pages hold an office, and these are the pages that its trees begin at
pub record StandForOffice (size : ℕ) (pages : PageMap) (roots : Roots) (o : Office) : Type 0 where
  pub holds : HoldOffice size pages o
  pub roots_are : roots_of size our_trees pages ≡ root_list roots

-- the row of number 1 of a table has version 2
abbrev pub ListsSecond : List Row → Type 0
ListsSecond rows = (row : Row) × Finds rows (pos 1) row true × (column row 2 ≡ Int (pos 2))

-- the disk failed, or the pages are shut or cannot grow
abbrev pub PagesStopped : {P : Type 0} → Ghosts P → P → P → Type 0
PagesStopped g old new = MoreFaults (g.faults old) (g.faults new) ⊎ (g.is_shut new ⊎ g.is_full new)
