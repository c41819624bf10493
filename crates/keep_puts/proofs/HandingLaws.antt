-- The files of pages and of a store, handed from one to the other.
use Rattle.std.proofs.Common.{◌≡◌, ℕ, true, false, Bool, ◌||◌, not, inl, refl, sym, ap, subst₂, ◌∙◌}
use Rattle.std.proofs.Common.{IsTrue, true≢false}
use Rattle.std.proofs.Math.Logic.{∥∥₁_map}
use Rattle.std.proofs.lemmas.Bool.{or_parts}
use Rattle.sqlite_disk.specs.declared.Disk.{Ghosts}
use Rattle.sqlite_wal.specs.Reads.{are_clean}
use Rattle.sqlite_wal.specs.Files.{seen_image}
use Rattle.sqlite_wal.proofs.LogLemmas.{SeenMayStay}
use Rattle.sqlite_trees.proofs.Doubt as at_trees
use Rattle.sqlite_trees.specs.View.{IsClean}
use Rattle.sqlite_pool.specs.declared.pool.Pool.{Pool}
use Rattle.sqlite_pool.specs.Pool as pages
use Rattle.sqlite_pool.specs.Pool.{usable, Follows}
use Rattle.sqlite_pool.specs.Opening as pages_opening
use Rattle.sqlite_pool.specs.Backing.{Reopens}
use Rattle.sqlite_pool.specs.Stored.{Recovers}
use Rattle.sqlite_pool.proofs.StateLemmas.{clean_is}
use Rattle.sqlite_store.specs.declared.store.open.Unopened.{Unopened}
use Rattle.sqlite_store.specs.Unopened as unopened
use Rattle.sqlite_store.specs.declared.store.FileStore.{FileStore}
use Rattle.sqlite_store.specs.FileStore.{view, schema_of, IsReady, IsUnaltered}
use Rattle.sqlite_store.specs.FileStore as store
use Rattle.keep_office.specs.Office.{Office}
use Rattle.keep_trees.specs.declared.page_trees.PageTrees.{PageTrees}
use Rattle.keep_trees.specs.Pages.{our_trees, HoldOffice, StandForOffice}
use Rattle.keep_puts.specs.Passing.{IsOnOurs}
use Rattle.keep_puts.specs.Handing.{IsOver, FindsPages, FindsStore, StoreHolds, TreesHold}
use Rattle.keep_puts.proofs.PassingLaws.{still_read, store_found, pages_found}

-- what two files read as, and whether they are clean, of a pair that is these two
same_image : {D : Type 0} (g : Ghosts D) (pair : D × D) (log db : D) → pair ≡ (log, db)
    → seen_image g pair.0 pair.1 ≡ seen_image g log db
same_image g pair log db same = ap (λ p. seen_image g p.0 p.1) same

-- what is not broken is open
open_of : (failed is_open : Bool) → (failed || not is_open) ≡ false → IsTrue is_open
open_of failed true h = refl
open_of failed false h = absurd (true≢false (or_parts failed true h).1)

module _ {D : Type 0} {g : Ghosts D} where
  -- pages that were recovered over two files found what these read as
  pub found_in : (size : ℕ) (log db : D) (old new : Pool D g) → IsOver size log db old → pages.IsClean new
      → Recovers (pages.state old).page_size (pages_opening.image old) (pages.state new).committed
      → Reopens (pages.state old) (pages.state new) → IsTrue (pages.state new).is_clean → FindsPages size log db new
  found_in size log db old new over only recovers kept clean = record {
    was_clean = ap (λ p. are_clean g p.0 p.1) (sym over.files_are) ∙ sym (clean_is old) ∙ kept.clean clean;
    sized = kept.size ∙ over.sized;
    only_read = record { is_open = only.is_open; fresh = only.fresh };
    found = subst₂ (λ n i. Recovers n i (pages.state new).committed) over.sized
        (same_image g (pages.files old) log db over.files_are) recovers;
  }

  -- a store that was opened over two files found what these read as
  pub opened_in : (size : ℕ) (log db : D) (old : Unopened D g) (new : FileStore D g)
      → unopened.files_of old ≡ (log, db) → (unopened.state_of old).page_size ≡ size
      → unopened.wanted_by old ≡ our_trees → schema_of new ≡ unopened.wanted_by old → IsReady new
      → Recovers (unopened.state_of old).page_size (unopened.image old) (store.state new).committed
      → (store.state new).page_size ≡ (unopened.state_of old).page_size → IsTrue (store.state new).is_clean
      → FindsStore size log db new
  opened_in size log db old new files sized wanted schema ready recovers kept clean = record {
    sized = kept ∙ sized;
    on_ours = record {
      is_open = ready.is_open (at_trees.no_doubt (store.state new).is_clean clean);
      ours = schema ∙ wanted;
      unaltered = ready.unaltered;
    };
    found = subst₂ (λ n i. Recovers n i (store.state new).committed) sized
        (same_image g (unopened.files_of old) log db files) recovers;
  }

module _ {D : Type 0} {g : Ghosts D} (stays : SeenMayStay g) where
  -- a store that was opened over the files of pages holds their office
  pub hands_over : (size : ℕ) (log db : D) (old : Pool D g) (new : FileStore D g) → (log, db) ≡ pages.files old
      → (pages.state old).page_size ≡ size → (IsTrue (store.state new).is_clean → FindsStore size log db new)
      → StoreHolds old new
  hands_over size log db old new files sized finds clean read o hold =
      let found = finds (at_trees.clean_of (store.state new).is_clean clean) in
      store_found stays old new read found.on_ours (found.sized ∙ sym sized)
      (subst₂ (λ n i. Recovers n i (store.state new).committed) (sym sized)
      (sym (same_image g (pages.files old) log db (sym files))) found.found) o hold

  -- pages that were recovered over the files of a store, and whose trees were found, hold its office
  pub takes_back : (size : ℕ) (log db : D) (old : FileStore D g) (new : Pool D g) (trees : PageTrees (Pool D g))
      → (log, db) ≡ pages.files old.pool → (IsClean (view old) → (view old).is_broken ≡ false)
      → (store.state old).page_size ≡ size → schema_of old ≡ our_trees → IsUnaltered old
      → (IsTrue (pages.state new).is_clean → FindsPages size log db new)
      → (pages.state trees.pages).page_size ≡ (pages.state new).page_size → Follows new trees.pages
      → usable trees.pages ≡ usable new
      → ((o : Office) → HoldOffice (pages.state new).page_size (usable new) o
      → StandForOffice (pages.state trees.pages).page_size (usable trees.pages) trees.roots o)
      → IsTrue (pages.state new).is_clean → TreesHold old trees
  takes_back size log db old new trees files sound sized ours unaltered finds kept follows same stand clean =
      let found = finds clean in
      let was : IsTrue (store.state old).is_clean =
      clean_is old.pool ∙ ap (λ p. are_clean g p.0 p.1) (sym files) ∙ found.was_clean in
      let on : IsOnOurs old = record {
        is_open = open_of old.has_failed (store.state old).is_open
            (sound (at_trees.no_doubt (store.state old).is_clean was));
        ours = ours;
        unaltered = unaltered;
      } in
      record {
        only_read = λ now. still_read new trees.pages found.only_read follows same now;
        stand = λ o held. ∥∥₁_map
            (pages_found stays old new (pages_opening.image old.pool) (inl refl) on found.only_read
            (found.sized ∙ sym sized)
            (subst₂ (λ n i. Recovers n i (pages.state new).committed) (sym sized)
            (sym (same_image g (pages.files old.pool) log db (sym files))) found.found) o held)
            (λ hold. stand o hold);
      }
