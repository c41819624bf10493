-- A file keeps its office as it passes from trees to a store and back.
use Rattle.std.proofs.Common.{◌≡◌, ℕ, ◌<◌, ◌^◌, List, inl, inr, refl, sym, ap, ap₂, subst, subst₂, ◌∙◌, arith}
use Rattle.std.proofs.Common.{IsTrue, Option, None}
use Rattle.std.proofs.Math.Logic.{∥∥₁_map}
use Rattle.sqlite_disk.specs.declared.Disk.{Ghosts}
use Rattle.sqlite_wal.specs.Recovery.{Image}
use Rattle.sqlite_wal.proofs.LogLemmas.{SeenMayStay}
use Rattle.sqlite_wal.proofs.StateLemmas.{clean_of}
use Rattle.sqlite_pages.specs.PageMap.{PageMap}
use Rattle.sqlite_pool.specs.declared.pool.Pool.{Pool}
use Rattle.sqlite_pool.specs.Pool.{usable}
use Rattle.sqlite_pool.specs.Pool as pages
use Rattle.sqlite_pool.specs.Opening.{image}
use Rattle.sqlite_pool.specs.Stored.{Recovers}
use Rattle.sqlite_pool.specs.StoredLaws.{recovers_once}
use Rattle.sqlite_pool.specs.File.{in_use, version_in}
use Rattle.sqlite_pool.proofs.StateLemmas.{settled, seen_may_be_left}
use Rattle.sqlite_trees.specs.Tree.{Trees}
use Rattle.sqlite_sql.specs.Catalog.{IsIndexOf}
use Rattle.sqlite_store.specs.declared.catalog.Wanted.{Wanted}
use Rattle.sqlite_store.specs.declared.store.FileStore.{FileStore}
use Rattle.sqlite_store.specs.declared.saved.Saved.{Saved}
use Rattle.sqlite_store.specs.Saved.{kept_schema}
use Rattle.sqlite_store.specs.Db.{IsFile, trees_in}
use Rattle.sqlite_store.specs.Listing.{all_trees, file_trees}
use Rattle.sqlite_store.specs.FileStore.{view, schema_of}
use Rattle.sqlite_store.specs.FileStore as store
use Rattle.sqlite_store.proofs.ListingLemmas.{named_tree, past_version}
use Rattle.keep_office.specs.Office.{Office}
use Rattle.keep_tables.specs.Stands.{AreAmountRows}
use Rattle.keep_trees.specs.Pages.{our_trees, HoldOffice}
use Rattle.keep_puts.specs.Trees.{key_columns, StandFor}
use Rattle.keep_puts.specs.Passing.{MayBeFound, IsOnOurs, StaysRead, StoreFinds, PagesFind}
use Rattle.keep_puts.specs.Passing.{PagesFindAgain}

-- trees of which the first seven are the same stand for the same office
same_stand : (a b : Trees) (o : Office) → ((t : ℕ) → t < 7 → b t ≡ a t) → StandFor a o → StandFor b o
same_stand a b o same stand =
    let has = stand.office.tables in
    record {
      office = record {
        tables = record {
          schema = refl;
          days_are = same 0 (omega arith) ∙ has.days_are;
          rows_are = subst (AreAmountRows o.rows) (sym (same 1 (omega arith))) has.rows_are;
          past_is = same 3 (omega arith) ∙ has.past_is;
          seals_are = same 4 (omega arith) ∙ has.seals_are;
          tariffs_are = same 5 (omega arith) ∙ has.tariffs_are;
          version = same 6 (omega arith) ∙ has.version;
        };
        fits = stand.office.fits;
        sound = stand.office.sound;
      };
      indexed = subst₂ (IsIndexOf key_columns) (sym (same 1 (omega arith))) (sym (same 2 (omega arith))) stand.indexed;
    }

-- a tree of a whole file is the one that its pages read as
tree_of_file : (size : ℕ) (whole : PageMap) (t : ℕ) → t < 7
    → file_trees size our_trees whole t ≡ trees_in size our_trees (in_use size whole) t
tree_of_file size whole t low =
    let named : t < 2 ^ 32 = omega (arith, low) in
    past_version t named (all_trees size our_trees (in_use size whole)) (version_in whole)
    ∙ named_tree t named size our_trees (in_use size whole)

-- where the pages of a file hold an office, its trees stand for it
file_stands : (size : ℕ) (whole : PageMap) (o : Office) → HoldOffice size (in_use size whole) o
    → StandFor (file_trees size our_trees whole) o
file_stands size whole o hold =
    same_stand (trees_in size our_trees (in_use size whole)) (file_trees size our_trees whole) o
    (tree_of_file size whole) (record { office = hold.office; indexed = hold.indexed })

-- and the other way round
file_holds : (size : ℕ) (whole : PageMap) (o : Office) → IsFile size our_trees whole
    → StandFor (file_trees size our_trees whole) o → HoldOffice size (in_use size whole) o
file_holds size whole o file stand =
    let now =
    same_stand (file_trees size our_trees whole) (trees_in size our_trees (in_use size whole)) o
    (λ t low. sym (tree_of_file size whole t low)) stand in
    record { db = file.db; office = now.office; indexed = now.indexed }

-- the same pages of the same size hold the same office
moved : (size later : ℕ) (page next : PageMap) (o : Office) → size ≡ later → page ≡ next → HoldOffice size page o
    → HoldOffice later next o
moved size later page next o s p hold = subst₂ (λ n m. HoldOffice n m o) s p hold

-- a list that was not changed is kept
kept_is : (saved : Option Saved) (schema : List Wanted) → saved ≡ None → schema ≡ our_trees
    → kept_schema saved schema ≡ our_trees
kept_is saved schema none ours = ap (λ (s : Option Saved). kept_schema s schema) none ∙ ours

-- what was only read is so after a call that wrote nothing
pub still_read : {D : Type 0} {g : Ghosts D} (old new : Pool D g) → StaysRead old new
still_read old new read follows same on = record {
  is_open = on;
  fresh = same ∙ read.fresh ∙ ap₂ in_use (sym follows.keeps.stays.size) (sym (follows.keeps.committed on));
}

module _ {D : Type 0} {g : Ghosts D} (stays : SeenMayStay g) where
  -- what two files recover to is what is committed
  one_commit : (it : Pool D g) → IsTrue (pages.state it).is_open → (found : Image)
      → MayBeFound (pages.state it) (image it) found → (whole : PageMap)
      → Recovers (pages.state it).page_size found whole
      → whole ≡ (pages.state it).committed
  one_commit it on found may whole recovers =
      recovers_once (pages.state it).page_size found whole (pages.state it).committed recovers
      ((settled it stays on).durable found (left may))
    where
      left : MayBeFound (pages.state it) (image it) found → (pages.state it).may_leave found
      left (inl seen) = subst (pages.state it).may_leave (sym seen)
          (seen_may_be_left it stays (clean_of (pages.state it) on))
      left (inr after) = after

  -- what a store on our trees has committed is what its file reads as
  committed_is : (it : FileStore D g) → IsOnOurs it
      → (view it).committed ≡ file_trees (store.state it).page_size our_trees (store.state it).committed
  committed_is it on =
      rw (clean_of (store.state it) on.is_open)
      (ap (λ (s : List Wanted). file_trees (store.state it).page_size s (store.state it).committed)
      (kept_is it.saved (schema_of it) on.unaltered on.ours))

  -- a store finds the office of the pages
  pub store_found : (old : Pool D g) (new : FileStore D g) → StoreFinds old new
  store_found old new read on size recovers o hold =
      let same = one_commit old read.is_open (image old) (inl refl) (store.state new).committed recovers in
      let hold_now =
      moved (pages.state old).page_size (store.state new).page_size (usable old)
      (in_use (store.state new).page_size (store.state new).committed) o (sym size)
      (read.fresh ∙ ap₂ in_use (sym size) (sym same)) hold in
      subst (λ t. StandFor t o) (sym (committed_is new on))
      (file_stands (store.state new).page_size (store.state new).committed o hold_now)

  -- pages find the office of a store
  pub pages_found : (old : FileStore D g) (new : Pool D g) → PagesFind old new
  pages_found old new found may on read size recovers o stand =
      let same = one_commit old.pool on.is_open found may (pages.state new).committed recovers in
      let now = subst (λ t. StandFor t o) (committed_is old on) stand in
      let ours = kept_is old.saved (schema_of old) on.unaltered on.ours in
      ∥∥₁_map (old.stored on.is_open)
      (λ stored.
      let file : IsFile (store.state old).page_size our_trees (store.state old).committed =
      subst (λ (s : List Wanted). IsFile (store.state old).page_size s (store.state old).committed) ours stored.ours.file in
      moved (store.state old).page_size (pages.state new).page_size
      (in_use (store.state old).page_size (store.state old).committed) (usable new) o (sym size)
      (sym (read.fresh ∙ ap₂ in_use size same))
      (file_holds (store.state old).page_size (store.state old).committed o file now))

  -- pages find the office of other pages
  pub pages_found_again : (old new : Pool D g) → PagesFindAgain old new
  pages_found_again old new found may was read size recovers o hold =
      let same = one_commit old was.is_open found may (pages.state new).committed recovers in
      moved (pages.state old).page_size (pages.state new).page_size (usable old) (usable new) o (sym size)
      (was.fresh ∙ sym (read.fresh ∙ ap₂ in_use size same)) hold
