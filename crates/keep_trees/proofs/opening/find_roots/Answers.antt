use Rattle.std.proofs.Common.{◌≡◌, ◌∙◌, ℕ, true, refl, subst, arith, IfSome, Option}
use Rattle.std.proofs.Math.Path.{subst₃}
use Rattle.sqlite_pages.specs.PageMap.{PageMap}
use Rattle.sqlite_trees.specs.declared.store.Shape.TheVariants.{Table}
use Rattle.sqlite_store.specs.Db.{IsDb, Names, roots_of, trees_in}
use Rattle.keep_trees.specs.declared.roots.Roots.{Roots}
use Rattle.keep_trees.specs.Pages.{our_trees, root_list, ListsSecond}
use Rattle.keep_trees.proofs.Premise.{form_begins}
use Rattle.keep_trees.proofs.opening.find_roots.Goals as goal

pub returns-clause-second : goal.returns-clause-second
returns-clause-second g c clean db =
    let size = g.P.Pages.size c.args.pages.now in
    let pages = g.P.Pages.pages c.args.pages.now in
    let are : roots_of size our_trees pages ≡ root_list c.in-Some.roots =
    subst (λ (o : Option Roots). IfSome o (λ r. roots_of size our_trees pages ≡ root_list r)) c.in-Some.is
    (c.in_ok-roots.ensures.done
    (omega (arith, c.lists_seven.ensures.kept.clean, c.is_second.ensures.kept.clean)) db) in
    let told =
    subst₃ (λ (n : ℕ) (m : PageMap) f. IsDb n our_trees m → Names n our_trees m 6 Table c.in-Some.roots.form
    → f ≡ true → ListsSecond (trees_in n our_trees m 6))
    (c.lists_seven.ensures.kept.same_size ∙ c.listed_roots.ensures.kept.same_size)
    (c.lists_seven.ensures.pages ∙ c.listed_roots.ensures.pages) c.if-not-branch-2.false
    (λ d at. c.in_ok-is_second.ensures.second clean 6 d at refl) in
    told db (form_begins are) refl
