-- The texts of the tables that a database lists, and which of them may be made into those of an office.
use Rattle.std.specs.Prelude.{◌≡◌, ℕ, Bool, true, false, List, [], ◌∷◌, codes, Ok}
use Rattle.sqlite_value.specs.declared.value.Value.TheVariants.{Text}
use Rattle.sqlite_value.specs.Order.{Row}
use Rattle.sqlite_resolve.specs.declared.compiled.Compiled.{Compiled}
use Rattle.sqlite.specs.Effect.{Database, Reads}
use Rattle.sqlite.specs.Clock.{timed}
use Rattle.sqlite.specs.Listing.{understood, reads_listing, IsSourceOf}
use Rattle.keep_tables.specs.Texts.{make_days, make_spent, make_past}

-- the query for the texts of all that a database lists; an index that a key makes has none
abbrev pub list_texts : List ℕ
list_texts = codes "SELECT sql FROM sqlite_schema WHERE sql IS NOT NULL ORDER BY sql"

-- the texts of version 1, in this order, or none
abbrev pub texts_of : Bool → List Row
texts_of true = (Text make_days ∷ []) ∷ (Text make_past ∷ []) ∷ (Text make_spent ∷ []) ∷ []
texts_of false = []

-- that query shows these of a database
pub record Lists (db : Database) (texts : List Row) : Type 0 where
  pub compiled : Compiled
  pub is : understood db.schema list_texts ≡ Ok compiled
  pub moment : ℕ
  pub source : Database
  pub from : IsSourceOf (reads_listing db.schema list_texts) db source
  pub shown : Reads compiled.command source (timed [] compiled.formats moment) texts

-- tables may be made: nothing is listed, or version 1 exactly
abbrev pub MayBeMade : Database → Type 0
MayBeMade db = (is_old : Bool) × Lists db (texts_of is_old)
