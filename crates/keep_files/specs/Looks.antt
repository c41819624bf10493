-- What a call that reads makes of the trees of a file.
use Rattle.std.specs.Prelude.{◌≡◌, Result}
use Rattle.sqlite_trees.specs.Tree.{Trees as Contents}
use Rattle.sqlite_pages.specs.Calls.{IsClean, Continues}
use Rattle.sqlite_pages.specs.declared.pages.Pages.{Ghosts}
use Rattle.sqlite_store.specs.Db.{IsDb, roots_of, trees_in}
use Rattle.keep_office.specs.Office.{Office}
use Rattle.keep_office.specs.declared.kept.KeepFault.{KeepFault}
use Rattle.keep_trees.specs.declared.page_trees.PageTrees.{PageTrees}
use Rattle.keep_trees.specs.Pages.{our_trees, root_list, HoldOffice, ListsSecond, StandForOffice, PagesStopped}
use Rattle.keep_trees.specs.Gives.{AnswersUnless}
use Rattle.keep_files.specs.declared.kept.Kept.{Kept}
use Rattle.keep_files.specs.declared.kept.Kept.TheVariants.{Trees, Whole}

-- where the pages hold an office, the trees that were found are its trees; where they are a database at all, these
-- begin at its roots, and its tables are of version 2
pub record AreFound {P : Type 0} (g : Ghosts P) (trees : PageTrees P) : Type 0 where
  pub stand : IsClean g trees.pages → (o : Office) → HoldOffice (g.size trees.pages) (g.pages trees.pages) o →
      StandForOffice (g.size trees.pages) (g.pages trees.pages) trees.roots o
  pub begin : IsClean g trees.pages → IsDb (g.size trees.pages) our_trees (g.pages trees.pages) →
      roots_of (g.size trees.pages) our_trees (g.pages trees.pages) ≡ root_list trees.roots
  pub second : IsClean g trees.pages → IsDb (g.size trees.pages) our_trees (g.pages trees.pages) →
      ListsSecond (trees_in (g.size trees.pages) our_trees (g.pages trees.pages) 6)

-- the same of what an open gives, where it gives trees
abbrev pub FindsTrees : {P W : Type 0} (g : Ghosts P) → Kept (PageTrees P) W → Type 0
FindsTrees g (Trees trees) = AreFound g trees
FindsTrees g (Whole conn) = Unit {0}

-- a call answers what the office gives that the pages stand for, unless there was no memory, the disk failed, or the
-- pages are shut or cannot grow; of any database whose trees begin at the roots its answer, or its fault, is what the
-- rows of these tell; the pages are as they were
pub record Looks {P A : Type 0} (g : Ghosts P) (gives : Office → A → Type 0)
    (tells : Contents → Result A KeepFault → Type 0) (old new : PageTrees P) (result : Result A KeepFault) :
    Type 0 where
  pub answers : IsClean g new.pages → (o : Office)
      → StandForOffice (g.size old.pages) (g.pages old.pages) old.roots o
      → AnswersUnless (PagesStopped g old.pages new.pages) (gives o) result
  pub told : IsClean g new.pages → IsDb (g.size old.pages) our_trees (g.pages old.pages)
      → roots_of (g.size old.pages) our_trees (g.pages old.pages) ≡ root_list old.roots
      → tells (trees_in (g.size old.pages) our_trees (g.pages old.pages)) result
  pub kept : Continues g old.pages new.pages
  pub same : (g.pages new.pages ≡ g.pages old.pages) × (new.roots ≡ old.roots)
