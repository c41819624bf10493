-- Trees that were found in pages.
use Rattle.std.proofs.Common.{◌≡◌, ℕ, subst, sym}
use Rattle.sqlite_pages.specs.Calls.{IsClean}
use Rattle.sqlite_pages.specs.PageMap.{PageMap}
use Rattle.sqlite_pages.specs.declared.pages.Pages.{Ghosts}
use Rattle.sqlite_store.specs.Db.{IsDb, roots_of, trees_in}
use Rattle.keep_office.specs.Office.{Office}
use Rattle.keep_trees.specs.declared.page_trees.PageTrees.{PageTrees}
use Rattle.keep_trees.specs.Pages.{our_trees, root_list, HoldOffice, ListsSecond, StandForOffice}
use Rattle.keep_files.specs.Looks.{AreFound}

module _ {P : Type 0} (g : Ghosts P) (trees : PageTrees P) (size : ℕ) (pages : PageMap)
    (same_size : g.size trees.pages ≡ size) (same : g.pages trees.pages ≡ pages) where
  -- what holds of the pages as they were holds of them as they are
  as_now : (F : ℕ → PageMap → Type 0) → F size pages → F (g.size trees.pages) (g.pages trees.pages)
  as_now F h =
      subst (λ (n : ℕ). F n (g.pages trees.pages)) (sym same_size)
      (subst (λ (m : PageMap). F size m) (sym same) h)

  -- trees that were found in pages are found in them as they are
  pub found_now : (IsClean g trees.pages → (o : Office) → HoldOffice size pages o →
      StandForOffice (g.size trees.pages) (g.pages trees.pages) trees.roots o)
      → (IsClean g trees.pages → IsDb size our_trees pages → roots_of size our_trees pages ≡ root_list trees.roots)
      → (IsClean g trees.pages → IsDb size our_trees pages → ListsSecond (trees_in size our_trees pages 6))
      → AreFound g trees
  found_now stand begin second = record {
    stand =
        as_now
        (λ n m. IsClean g trees.pages → (o : Office) → HoldOffice n m o →
        StandForOffice (g.size trees.pages) (g.pages trees.pages) trees.roots o) stand;
    begin =
        as_now
        (λ n m. IsClean g trees.pages → IsDb n our_trees m → roots_of n our_trees m ≡ root_list trees.roots) begin;
    second =
        as_now (λ n m. IsClean g trees.pages → IsDb n our_trees m → ListsSecond (trees_in n our_trees m 6)) second;
  }
