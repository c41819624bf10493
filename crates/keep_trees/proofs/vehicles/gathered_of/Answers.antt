use Rattle.std.proofs.Common.{◌≡◌, ℕ, [], true, false, refl, sym, subst, subst₂, ◌∙◌, arith, List}
use Rattle.std.proofs.lemmas.Result.{err_from_is_err_and}
use Rattle.sqlite_pages.specs.PageMap.{PageMap}
use Rattle.sqlite_btree.proofs.Results.{within_limit}
use Rattle.sqlite_store.specs.Db.{roots_of, trees_in}
use Rattle.sqlite_store.proofs.Causes.{Continues-trans}
use Rattle.road_time.specs.declared.day.SpentRow.{SpentRow}
use Rattle.keep_trees.specs.Pages.{our_trees, root_list, StandForOffice}
use Rattle.keep_trees.specs.Finds.{pair_key}
use Rattle.keep_trees.specs.Walks.{StartsAt}
use Rattle.keep_trees.specs.Rows.{is_of_vehicle, Walking, IsWalkedTo}
use Rattle.keep_trees.proofs.Premise.{key_at, key_begins, listed}
use Rattle.keep_trees.specs.Tolls.{AreToldOf, TellingOf, IsTellingOf}
use Rattle.keep_trees.proofs.VehicleTold.{begins_of}
use Rattle.keep_trees.proofs.RowsLaws.{IsSkipped, resumes}
use Rattle.keep_trees.proofs.WantedLaws.{early_of}
use Rattle.sqlite_keyed.proofs.ListLemmas.{all_of}
use Rattle.keep_trees.proofs.vehicles.gathered_of.Goals as goal

pub returns-in_err-found-clause-done : goal.returns-in_err-found-clause-done
returns-in_err-found-clause-done g c clean o has =
    let p = err_from_is_err_and c.from_residual.result c.from_residual.ensures.1 in
    rw (p.1, p.2) ((c.in_err-found.ensures.done (omega arith)) has.holds.db (key_at has))

pub returns-then-not-found-clause-done : goal.returns-then-not-found-clause-done
returns-then-not-found-clause-done g c clean o has =
    let size = g.P.Pages.size c.args.pages.now in
    let pages = g.P.Pages.pages c.args.pages.now in
    let wanted = is_of_vehicle c.args.vid c.args.from c.args.to in
    let key = pair_key c.args.from c.args.vid in
    let starts =
    subst (StartsAt (has.holds.db.layouts 3) size pages
    (trees_in size our_trees pages 2) key c.seek_pair.new.hands.batch c.seek_pair.new.hands.entry)
    c.if-not-found.true ((c.in_ok-found.ensures.done (omega arith)) has.holds.db (key_at has)) in
    c.new-rows.ensures.items
    ∙ resumes o wanted has.holds.db key [] o.rows (trees_in size our_trees pages 2) [] refl refl (listed has) refl
    (all_of (IsSkipped wanted key) (early_of c.args.vid c.args.from c.args.to) o.rows)
    c.seek_pair.new.hands.batch c.seek_pair.new.hands.entry false starts

pub walk-init : goal.walk-init
walk-init g c = (
  c.seek_pair.ensures.kept,
  c.seek_pair.ensures.pages,
  λ clean o has.
      let size = g.P.Pages.size c.args.pages.now in
      let pages = g.P.Pages.pages c.args.pages.now in
      let wanted = is_of_vehicle c.args.vid c.args.from c.args.to in
      let key = pair_key c.args.from c.args.vid in
      let starts =
      subst (StartsAt (has.holds.db.layouts 3) size pages
      (trees_in size our_trees pages 2) key c.seek_pair.new.hands.batch c.seek_pair.new.hands.entry)
      c.if-not-found.false ((c.in_ok-found.ensures.done (omega arith)) has.holds.db (key_at has)) in
      subst (λ (l : List SpentRow). Walking size pages o wanted c.seek_pair.new.hands.batch c.seek_pair.new.hands.entry
      l)
      (sym c.new-rows.ensures.items)
      (resumes o wanted has.holds.db key [] o.rows (trees_in size our_trees pages 2) [] refl refl (listed has) refl
      (all_of (IsSkipped wanted key) (early_of c.args.vid c.args.from c.args.to) o.rows)
      c.seek_pair.new.hands.batch c.seek_pair.new.hands.entry true starts),
  λ clean db are.
      let size = g.P.Pages.size c.args.pages.now in
      let pages = g.P.Pages.pages c.args.pages.now in
      let starts =
      subst (StartsAt (db.layouts 3) size pages (trees_in size our_trees pages 2) (pair_key c.args.from c.args.vid)
      c.seek_pair.new.hands.batch c.seek_pair.new.hands.entry)
      c.if-not-found.false (c.in_ok-found.ensures.done clean db (key_begins are)) in
      subst (λ (l : List SpentRow). TellingOf size pages c.args.vid c.args.from c.args.to
      c.seek_pair.new.hands.batch c.seek_pair.new.hands.entry l)
      (sym c.new-rows.ensures.items)
      (begins_of c.args.vid c.args.from c.args.to db c.seek_pair.new.hands.batch c.seek_pair.new.hands.entry true
      starts),
)

pub returns-in_err-more-clause-done : goal.returns-in_err-more-clause-done
returns-in_err-more-clause-done g c clean o has =
    let size = g.P.Pages.size c.args.pages.now in
    let pages = g.P.Pages.pages c.args.pages.now in
    let kept = c.walk.invariant.0 in
    let p = err_from_is_err_and c.from_residual-in_err-more.result c.from_residual-in_err-more.ensures.1 in
    let w = c.walk.invariant.2 (omega (arith, c.step.ensures.kept.clean)) o has in
    let cause =
    (c.in_err-more.ensures.done (omega arith)) o
    (subst₂ (λ n m. StandForOffice n m c.args.roots o) (sym kept.same_size) (sym c.walk.invariant.1) has)
    (subst₂ (λ n m. Walking n m o (is_of_vehicle c.args.vid c.args.from c.args.to) c.walk.hands.batch
    c.walk.hands.entry c.walk.rows.items)
    (sym kept.same_size) (sym c.walk.invariant.1) w) in
    rw (p.1, p.2) (within_limit _ _ _ ⊥ _ kept.more_faults cause)

pub walk-preserved : goal.walk-preserved
walk-preserved g c = (
  Continues-trans g.P.Pages g.met.P.Pages.follows_trans c.walk.invariant.0 c.step.ensures.kept,
  c.step.ensures.pages ∙ c.walk.invariant.1,
  λ clean o has.
      let kept = c.walk.invariant.0 in
      let w = c.walk.invariant.2 (omega (arith, c.step.ensures.kept.clean)) o has in
      let done =
      subst₂ (λ (n : ℕ) (m : PageMap). StandForOffice n m c.args.roots o
      → Walking n m o (is_of_vehicle c.args.vid c.args.from c.args.to) c.walk.hands.batch c.walk.hands.entry
      c.walk.rows.items
      → IsWalkedTo n m o (is_of_vehicle c.args.vid c.args.from c.args.to) c.step.new.hands.batch c.step.new.hands.entry
      c.step.new.rows.items true)
      kept.same_size c.walk.invariant.1
      (λ there walking.
      subst (IsWalkedTo (g.P.Pages.size c.walk.pages) (g.P.Pages.pages c.walk.pages) o
      (is_of_vehicle c.args.vid c.args.from c.args.to) c.step.new.hands.batch c.step.new.hands.entry
      c.step.new.rows.items)
      c.if-not-more.false ((c.in_ok-more.ensures.done (omega arith)) o there walking)) in
      done has w,
  λ clean db are.
      let kept = c.walk.invariant.0 in
      let w = c.walk.invariant.3 (omega (arith, c.step.ensures.kept.clean)) db are in
      let done =
      subst₂ (λ (n : ℕ) (m : PageMap). roots_of n our_trees m ≡ root_list c.args.roots
      → TellingOf n m c.args.vid c.args.from c.args.to c.walk.hands.batch c.walk.hands.entry c.walk.rows.items
      → IsTellingOf n m c.args.vid c.args.from c.args.to c.step.new.hands.batch c.step.new.hands.entry
      c.step.new.rows.items true)
      kept.same_size c.walk.invariant.1
      (λ there walking.
      subst (IsTellingOf (g.P.Pages.size c.walk.pages) (g.P.Pages.pages c.walk.pages) c.args.vid c.args.from c.args.to
      c.step.new.hands.batch c.step.new.hands.entry c.step.new.rows.items)
      c.if-not-more.false (c.in_ok-more.ensures.told clean there walking)) in
      done are w,
)

pub returns-then-not-found-clause-told : goal.returns-then-not-found-clause-told
returns-then-not-found-clause-told g c clean db are =
    let size = g.P.Pages.size c.args.pages.now in
    let pages = g.P.Pages.pages c.args.pages.now in
    let starts =
    subst (StartsAt (db.layouts 3) size pages (trees_in size our_trees pages 2) (pair_key c.args.from c.args.vid)
    c.seek_pair.new.hands.batch c.seek_pair.new.hands.entry)
    c.if-not-found.true (c.in_ok-found.ensures.done clean db (key_begins are)) in
    subst (λ (l : List SpentRow). AreToldOf (trees_in size our_trees pages 1) (trees_in size our_trees pages 2)
    c.args.vid c.args.from c.args.to l)
    (sym c.new-rows.ensures.items)
    (begins_of c.args.vid c.args.from c.args.to db c.seek_pair.new.hands.batch c.seek_pair.new.hands.entry false starts)

pub returns-then-not-more-clause-told : goal.returns-then-not-more-clause-told
returns-then-not-more-clause-told g c clean db are =
    let kept = c.walk.invariant.0 in
    let w = c.walk.invariant.3 (omega (arith, c.step.ensures.kept.clean)) db are in
    let done =
    subst₂ (λ (n : ℕ) (m : PageMap). roots_of n our_trees m ≡ root_list c.args.roots
    → TellingOf n m c.args.vid c.args.from c.args.to c.walk.hands.batch c.walk.hands.entry c.walk.rows.items
    → IsTellingOf n m c.args.vid c.args.from c.args.to c.step.new.hands.batch c.step.new.hands.entry
    c.step.new.rows.items false)
    kept.same_size c.walk.invariant.1
    (λ there walking.
    subst (IsTellingOf (g.P.Pages.size c.walk.pages) (g.P.Pages.pages c.walk.pages) c.args.vid c.args.from c.args.to
    c.step.new.hands.batch c.step.new.hands.entry c.step.new.rows.items)
    c.if-not-more.true (c.in_ok-more.ensures.told clean there walking)) in
    done are w
