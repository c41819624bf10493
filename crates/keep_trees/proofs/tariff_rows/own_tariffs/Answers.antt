use Rattle.std.proofs.Common.{◌≡◌, ℕ, sym, subst₂, arith}
use Rattle.std.proofs.lemmas.Result.{err_from_is_err_and}
use Rattle.sqlite_pages.specs.PageMap.{PageMap}
use Rattle.sqlite_btree.proofs.Results.{within_limit}
use Rattle.sqlite_store.specs.Db.{IsDb, roots_of, trees_in}
use Rattle.keep_trees.specs.Pages.{our_trees, root_list}
use Rattle.keep_trees.specs.Tells.{AreToldBelow}
use Rattle.keep_trees.proofs.Premise.{moved, not_both}
use Rattle.keep_trees.proofs.tariff_rows.own_tariffs.Goals as goal

pub returns-in_err-numbered-clause-done : goal.returns-in_err-numbered-clause-done
returns-in_err-numbered-clause-done g c clean o has =
    let p = err_from_is_err_and c.from_residual.result c.from_residual.ensures.1 in
    rw (p.1, p.2) (c.in_err-numbered.ensures.done (omega arith) o has)

pub returns-then-not-numbered-clause-done : goal.returns-then-not-numbered-clause-done
returns-then-not-numbered-clause-done g c clean o has =
    absurd (not_both (c.in_ok-numbered.ensures.done (omega arith) o has) c.if-not-numbered.true)

pub returns-in_err-tariffs-clause-done : goal.returns-in_err-tariffs-clause-done
returns-in_err-tariffs-clause-done g c clean o has =
    let p = err_from_is_err_and c.from_residual-in_err-tariffs.result c.from_residual-in_err-tariffs.ensures.1 in
    let still = moved (sym c.are_numbered.ensures.kept.same_size) (sym c.are_numbered.ensures.pages) has in
    let cause = c.in_err-tariffs.ensures.done (omega arith) o still in
    rw (p.1, p.2) (within_limit _ _ _ ⊥ _ c.are_numbered.ensures.kept.more_faults cause)

pub returns-clause-done : goal.returns-clause-done
returns-clause-done g c clean o has =
    c.in_ok-tariffs.ensures.done (omega arith) o
    (moved (sym c.are_numbered.ensures.kept.same_size) (sym c.are_numbered.ensures.pages) has)

pub returns-clause-told : goal.returns-clause-told
returns-clause-told g c clean db are =
    let below =
    subst₂ (λ (n : ℕ) (m : PageMap). IsDb n our_trees m → roots_of n our_trees m ≡ root_list c.args.roots
    → AreToldBelow (trees_in n our_trees m 5) 256 c.in_ok-tariffs.tariffs)
    c.are_numbered.ensures.kept.same_size c.are_numbered.ensures.pages (c.in_ok-tariffs.ensures.told (omega arith)) in
    record {
      numbered = c.in_ok-numbered.ensures.told (omega (arith, c.each_tariff.ensures.kept.clean)) db are
          c.if-not-numbered.false;
      told = below db are;
    }
