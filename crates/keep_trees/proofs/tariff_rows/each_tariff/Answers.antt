use Rattle.std.proofs.Common.{◌≡◌, ◌∙◌, ◌+◌, ℕ, sym, ap, subst, subst₂, refl, arith}
use Rattle.std.proofs.lemmas.Result.{err_from_is_err_and}
use Rattle.sqlite_btree.proofs.Results.{within_limit}
use Rattle.sqlite_store.proofs.Causes.{Continues-trans}
use Rattle.sqlite_pages.specs.PageMap.{PageMap}
use Rattle.sqlite_store.specs.Db.{IsDb, roots_of, trees_in}
use Rattle.keep_trees.specs.Own.{tariffs_below}
use Rattle.keep_trees.specs.Pages.{our_trees, root_list}
use Rattle.keep_trees.specs.Tells.{AreToldBelow}
use Rattle.keep_trees.proofs.TariffsTold.{none_told}
use Rattle.keep_trees.proofs.Premise.{moved}
use Rattle.keep_trees.proofs.TariffsFound.{none_below, all_below}
use Rattle.keep_trees.proofs.tariff_rows.each_tariff.Goals as goal

pub xways-init : goal.xways-init
xways-init g c = (
  record { same_size = refl; more_faults = omega arith; clean = omega arith; in_order = g.met.P.Pages.follows_refl _ },
  refl,
  λ clean o has. c.new-tariffs.ensures ∙ none_below o.tariffs,
  λ clean db are. none_told _ _ c.new-tariffs.ensures,
)

pub xways-preserved : goal.xways-preserved
xways-preserved g c = (
  Continues-trans g.P.Pages g.met.P.Pages.follows_trans c.xways.invariant.0 c.add_tariff.ensures.kept,
  c.add_tariff.ensures.pages ∙ c.xways.invariant.1,
  λ clean o has.
      let still = moved (sym c.xways.invariant.0.same_size) (sym c.xways.invariant.1) has in
      let got = c.xways.invariant.2 (omega (arith, c.add_tariff.ensures.kept.clean)) o has in
      c.in_ok-add_tariff.ensures.done clean o still got,
  λ clean db are.
      let told = c.xways.invariant.3 (omega (arith, c.add_tariff.ensures.kept.clean)) db are in
      let next =
      subst₂ (λ (n : ℕ) (m : PageMap). IsDb n our_trees m → roots_of n our_trees m ≡ root_list c.args.roots
      → AreToldBelow (trees_in n our_trees m 5) c.xways.xway c.xways.tariffs
      → AreToldBelow (trees_in n our_trees m 5) (c.xways.xway + 1) c.add_tariff.new.tariffs)
      c.xways.invariant.0.same_size c.xways.invariant.1 (c.in_ok-add_tariff.ensures.told clean) in
      next db are told,
)

pub returns-in_err-add_tariff-clause-done : goal.returns-in_err-add_tariff-clause-done
returns-in_err-add_tariff-clause-done g c clean o has =
    let still = moved (sym c.xways.invariant.0.same_size) (sym c.xways.invariant.1) has in
    let got = c.xways.invariant.2 (omega (arith, c.add_tariff.ensures.kept.clean)) o has in
    let p = err_from_is_err_and c.from_residual.result c.from_residual.ensures.1 in
    let cause = c.in_err-add_tariff.ensures.done clean o still got in
    rw (p.1, p.2) (within_limit _ _ _ ⊥ _ c.xways.invariant.0.more_faults cause)

pub returns-clause-done : goal.returns-clause-done
returns-clause-done g c clean o has =
    let end : c.xways.xway ≡ 256 = omega (arith, c.xways-test.false, c.xways.auto.xway-end) in
    c.xways.invariant.2 clean o has ∙ ap (λ n. tariffs_below n o.tariffs) end
    ∙ all_below o.tariffs has.holds.office.fits.tariffs

pub returns-clause-told : goal.returns-clause-told
returns-clause-told g c clean db are =
    let end : c.xways.xway ≡ 256 = omega (arith, c.xways-test.false, c.xways.auto.xway-end) in
    subst (λ n. AreToldBelow (trees_in (g.P.Pages.size c.args.pages.now) our_trees (g.P.Pages.pages c.args.pages.now) 5)
    n c.xways.tariffs) end (c.xways.invariant.3 clean db are)
