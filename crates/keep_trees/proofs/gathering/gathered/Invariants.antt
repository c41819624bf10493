use Rattle.std.proofs.Common.{◌≡◌}
use Rattle.sqlite_pages.specs.Calls.{IsClean, Continues}
use Rattle.keep_office.specs.Office.{Office}
use Rattle.keep_trees.specs.Pages.{our_trees, root_list, StandForOffice}
use Rattle.keep_trees.specs.Tolls.{Telling}
use Rattle.sqlite_store.specs.Db.{IsDb, roots_of}
use Rattle.keep_trees.specs.Rows.{is_within, Walking}
use Rattle.keep_trees.proofs.gathering.gathered.Given as goal

-- the pages are as they were, and where they stand for an office the walk stands at an entry;
-- so it does where they are a database of these trees
abbrev pub invariant-walk : goal.invariant-walk
invariant-walk g l =
    Continues g.P.Pages l.fn.pages l.pages × (g.P.Pages.pages l.pages ≡ g.P.Pages.pages l.fn.pages)
    × (IsClean g.P.Pages l.pages → (o : Office)
    → StandForOffice (g.P.Pages.size l.fn.pages) (g.P.Pages.pages l.fn.pages) l.fn.roots o
    → Walking (g.P.Pages.size l.fn.pages) (g.P.Pages.pages l.fn.pages) o
    (is_within l.fn.from l.fn.to) l.hands.batch l.hands.entry l.rows.items)
    × (IsClean g.P.Pages l.pages
    → IsDb (g.P.Pages.size l.fn.pages) our_trees (g.P.Pages.pages l.fn.pages)
    → roots_of (g.P.Pages.size l.fn.pages) our_trees (g.P.Pages.pages l.fn.pages) ≡ root_list l.fn.roots
    → Telling (g.P.Pages.size l.fn.pages) (g.P.Pages.pages l.fn.pages) l.fn.from l.fn.to
    l.hands.batch l.hands.entry l.rows.items)
