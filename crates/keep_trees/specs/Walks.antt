-- A walk over the entries of an index.
use Rattle.std.specs.Prelude.{◌≡◌, ℕ, Bool, true, false, List, [], ◌∷◌, ◌++◌, map}
use Rattle.sqlite_pages.specs.PageMap.{PageMap}
use Rattle.sqlite_value.specs.Order.{Row}
use Rattle.sqlite_value.specs.Keys.{plain}
use Rattle.sqlite_record.specs.Record.{decode}
use Rattle.sqlite_trees.specs.declared.store.Shape.TheVariants.{Index}
use Rattle.sqlite_trees.specs.Tree.{from_key}
use Rattle.sqlite_btree.specs.Chain.{Layout, Entry}
use Rattle.sqlite_btree.specs.Batch.{left_in, IsBatchOf}
use Rattle.sqlite_btree.specs.declared.batch.Batch.{Batch}
use Rattle.sqlite_store.specs.Cursor.{rows_after}

-- the entries that a batch has left
abbrev pub entries_left : PageMap → Batch → List Row
entries_left pages batch = map (λ (e : Entry). decode e.payload) (left_in pages batch)

-- what comes after an entry is what a batch has left, and more
pub record HasAhead (layout : Layout) (size : ℕ) (pages : PageMap) (entries : List Row) (batch : Batch)
    (entry : Row) : Type 0 where
  pub valid : IsBatchOf layout size batch
  pub rest : List Row
  pub ahead : rows_after (Index plain) entry entries ≡ entries_left pages batch ++ rest

-- the entry is the first from a key on, and the batch has what comes after it; or there is none
abbrev pub StartsAt : Layout → ℕ → PageMap → List Row → Row → Batch → Row → Bool → Type 0
StartsAt layout size pages entries key batch entry true =
    (from_key plain key entries ≡ entry ∷ rows_after (Index plain) entry entries)
    × HasAhead layout size pages entries batch entry
StartsAt layout size pages entries key batch entry false = from_key plain key entries ≡ []

-- the entry is the one after another, and the batch has what comes after it; or there is none
abbrev pub Advances : Layout → ℕ → PageMap → List Row → Row → Batch → Row → Bool → Type 0
Advances layout size pages entries last batch entry true =
    (rows_after (Index plain) last entries ≡ entry ∷ rows_after (Index plain) entry entries)
    × HasAhead layout size pages entries batch entry
Advances layout size pages entries last batch entry false = rows_after (Index plain) last entries ≡ []

-- the first entry that was left is taken; or none was, and nothing has changed
abbrev pub TakesEntry : Layout → ℕ → PageMap → Batch → Batch → Row → Row → Bool → Type 0
TakesEntry layout size pages old new before entry true =
    (entries_left pages old ≡ entry ∷ entries_left pages new) × IsBatchOf layout size new
TakesEntry layout size pages old new before entry false = (entries_left pages old ≡ []) × (new ≡ old) × (entry ≡ before)
