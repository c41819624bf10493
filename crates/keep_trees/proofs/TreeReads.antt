-- Trees as the pages read, where no column is REAL.
use Rattle.std.proofs.Common.{◌≡◌, ℕ, Bool, true, false, List, [], ◌∷◌, ◌++◌, map, refl, sym, ap, ap₂, ◌∙◌}
use Rattle.sqlite_pages.specs.PageMap.{PageMap}
use Rattle.sqlite_value.specs.Order.{Row}
use Rattle.sqlite_value.specs.Keys.{plain, prefix_cmp}
use Rattle.sqlite_record.proofs.AffinityLemmas.{widen-zero}
use Rattle.sqlite_trees.specs.declared.store.Shape.TheVariants.{Table, Index}
use Rattle.sqlite_btree.specs.Chain.{Layout, Entry}
use Rattle.sqlite_btree.specs.Cut.{from_cut}
use Rattle.sqlite_btree.specs.Stored.{as_record}
use Rattle.sqlite_btree.specs.declared.batch.Batch.{Batch}
use Rattle.sqlite_btree.specs.Batch.{IsFilled, TookFirst, left_in, taken}
use Rattle.sqlite_record.specs.Record.{decode}
use Rattle.sqlite_trees.specs.Tree.{from_key}
use Rattle.sqlite_store.specs.Sides.{below_or_above}
use Rattle.sqlite_store.proofs.OrderLemmas.{below_is}
use Rattle.sqlite_store.proofs.RowLemmas.{from_key-map}
use Rattle.keep_trees.specs.Finds.{IsFirst}
use Rattle.sqlite_store.specs.declared.catalog.Wanted.{Wanted}
use Rattle.sqlite_store.specs.Catalog.{reals_at}
use Rattle.sqlite_store.specs.Db.{Names, rows_at, shown, trees_in}
use Rattle.sqlite_store.proofs.DbLemmas.{named_rows}
use Rattle.sqlite_store.proofs.ShownLemmas.{shown-zero}

-- what changes no row changes no list of rows
same_each : (f : Row → Row) → ((r : Row) → f r ≡ r) → (rows : List Row) → map f rows ≡ rows
same_each f same [] = refl
same_each f same (r ∷ rows) = ap₂ (λ x xs. x ∷ xs) (same r) (same_each f same rows)

-- a table is the rows that its pages read as
pub table_shows : {size t root : ℕ} {schema : List Wanted} {pages : PageMap} → Names size schema pages t Table root
    → reals_at schema t ≡ 0
    → trees_in size schema pages t ≡ rows_at size pages Table root
table_shows {size} {t} {root} {schema} {pages} names none =
    named_rows names ∙ ap (λ n. map (shown Table n) (rows_at size pages Table root)) none
    ∙ same_each (shown Table 0) shown-zero (rows_at size pages Table root)

-- so is an index
pub index_shows : {size t root : ℕ} {schema : List Wanted} {pages : PageMap}
    → Names size schema pages t (Index plain) root → reals_at schema t ≡ 0
    → trees_in size schema pages t ≡ rows_at size pages (Index plain) root
index_shows {size} {t} {root} {schema} {pages} names none =
    named_rows names ∙ ap (λ n. map (shown (Index plain) n) (rows_at size pages (Index plain) root)) none
    ∙ same_each (shown (Index plain) 0) widen-zero (rows_at size pages (Index plain) root)

-- what a batch that was filled from a key on gives first
pub first_taken : (key : Row) (raw : List (List ℕ)) (layout : Layout) (size : ℕ) (pages : PageMap) (old new : Batch)
    (found : Bool)
    → IsFilled as_record (from_cut (λ x. below_or_above (prefix_cmp plain (decode x) key)) raw) layout size pages old
    → TookFirst layout size pages old new found
    → IsFirst (from_key plain key (map decode raw)) (decode (taken new).payload) found
first_taken key raw layout size pages old new true filled took = (
  map decode (map as_record (left_in pages new) ++ filled.rest),
  sym (from_key-map decode _ plain key (λ x. below_is _) raw)
      ∙ ap (map decode) (filled.parts ∙ ap (λ (l : List Entry). map as_record l ++ filled.rest) took.0),
)
first_taken key raw layout size pages old new false filled took =
    sym (from_key-map decode _ plain key (λ x. below_is _) raw)
    ∙ ap (map decode) (filled.parts
    ∙ ap₂ (λ (l : List Entry) (r : List (List ℕ)). map as_record l ++ r) took.0 (filled.ends took.0))
