use Rattle.std.proofs.Common.{◌≡◌}
use Rattle.sqlite_pages.specs.Calls.{IsClean, Continues}
use Rattle.keep_office.specs.Office.{Office}
use Rattle.keep_trees.specs.Pages.{our_trees, root_list, StandForOffice}
use Rattle.keep_trees.specs.Tells.{AreToldBelow}
use Rattle.sqlite_store.specs.Db.{IsDb, roots_of, trees_in}
use Rattle.keep_trees.specs.Own.{tariffs_below}
use Rattle.keep_trees.proofs.tariff_rows.each_tariff.Given as goal

-- the pages are as they were, and where they stand for an office the tariffs of the expressways so far are taken up;
-- where they are a database of these trees each expressway so far is told its tariff
abbrev pub invariant-xways : goal.invariant-xways
invariant-xways g l =
    Continues g.P.Pages l.fn.pages l.pages × (g.P.Pages.pages l.pages ≡ g.P.Pages.pages l.fn.pages)
    × (IsClean g.P.Pages l.pages → (o : Office)
    → StandForOffice (g.P.Pages.size l.fn.pages) (g.P.Pages.pages l.fn.pages) l.fn.roots o
    → l.tariffs ≡ tariffs_below l.xway o.tariffs)
    × (IsClean g.P.Pages l.pages
    → IsDb (g.P.Pages.size l.fn.pages) our_trees (g.P.Pages.pages l.fn.pages)
    → roots_of (g.P.Pages.size l.fn.pages) our_trees (g.P.Pages.pages l.fn.pages) ≡ root_list l.fn.roots
    → AreToldBelow (trees_in (g.P.Pages.size l.fn.pages) our_trees (g.P.Pages.pages l.fn.pages) 5) l.xway l.tariffs)
