use Rattle.std.proofs.Common.{rules, ◌≡◌, ℕ, pos, true, false, Some, None, refl, sym, ap, subst, subst₂, ◌∙◌, arith}
use Rattle.std.proofs.Common.{to_z, of_z, w64}
use Rattle.std.proofs.lemmas.Result.{err_from_is_err_and}
use Rattle.sqlite_trees.specs.View.{Finds}
use Rattle.sqlite_pages.specs.PageMap.{PageMap}
use Rattle.sqlite_value.specs.Order.{Row, column}
use Rattle.sqlite_trees.specs.declared.store.Shape.TheVariants.{Table}
use Rattle.sqlite_btree.proofs.Results.{within_limit}
use Rattle.sqlite_store.specs.Catalog.{reals_at}
use Rattle.sqlite_store.specs.Db.{IsDb, Names, trees_in}
use Rattle.keep_office.specs.Office.{record_of}
use Rattle.keep_tables.specs.Codec.{seal_row}
use Rattle.keep_trees.specs.Pages.{our_trees}
use Rattle.keep_trees.specs.Days.{TellsDay, IsToldOld}
use Rattle.keep_trees.specs.Tells.{IsDayOf}
use Rattle.keep_trees.proofs.Premise.{seals_at, seals_begin, moved}
use Rattle.keep_trees.proofs.DayFound.{day_row_found, day_row_none, is_told, with_its_seal}
use Rattle.keep_trees.proofs.day_rows.record.Goals as goal

pub returns-in_err-there-clause-done : goal.returns-in_err-there-clause-done
returns-in_err-there-clause-done g c clean o has =
    let p = err_from_is_err_and c.from_residual-in_err-there.result c.from_residual-in_err-there.ensures.1 in
    let still = moved (sym c.unsealed_day.ensures.kept.same_size) (sym c.unsealed_day.ensures.pages) has in
    let cause = (c.in_err-there.ensures.done (omega arith)) 4 still.holds.db (seals_at still) refl in
    rw (p.1, p.2) (within_limit _ _ _ ⊥ _ c.unsealed_day.ensures.kept.more_faults cause)

pub returns-then-not-there-clause-done : goal.returns-then-not-there-clause-done
returns-then-not-there-clause-done g c clean o has =
    let size = g.P.Pages.size c.args.pages.now in
    let pages = g.P.Pages.pages c.args.pages.now in
    let rows = trees_in size our_trees pages 4 in
    let tells = subst (TellsDay (record_of o c.args.day)) c.in-Some.is
    ((c.in_ok-old.ensures.done (omega (arith, c.find_row.ensures.kept.clean))) o has) in
    let told = is_told (record_of o c.args.day) c.in-Some.old tells in
    let whole : to_z w64 (of_z w64 c.from.result) ≡ pos c.args.day = search rules in
    let seek =
    subst₂ (λ (n : ℕ) (m : PageMap). (t : ℕ) → IsDb n our_trees m → Names n our_trees m t Table c.args.roots.seals
    → reals_at our_trees t ≡ 0
    → Finds (trees_in n our_trees m t) (to_z w64 (of_z w64 c.from.result)) c.find_row.new.row c.in_ok-there.there)
    c.unsealed_day.ensures.kept.same_size c.unsealed_day.ensures.pages (c.in_ok-there.ensures.done (omega arith)) in
    let finds : Finds rows (pos c.args.day) c.find_row.new.row false =
    subst₂ (λ n f. Finds rows n c.find_row.new.row f) whole c.if-not-there.true
    (seek 4 has.holds.db (seals_at has) refl) in
    let none = day_row_none seal_row
    (λ d. refl) c.args.day o.days rows c.find_row.new.row has.holds.office.tables.seals_are finds in
    let bad : None ≡ Some told.day = sym none ∙ told.kept_is in
    cc

pub returns-in_err-seal-clause-done : goal.returns-in_err-seal-clause-done
returns-in_err-seal-clause-done g c clean o has =
    let size = g.P.Pages.size c.args.pages.now in
    let pages = g.P.Pages.pages c.args.pages.now in
    let rows = trees_in size our_trees pages 4 in
    let tells = subst (TellsDay (record_of o c.args.day)) c.in-Some.is
    ((c.in_ok-old.ensures.done (omega (arith, c.find_row.ensures.kept.clean))) o has) in
    let told = is_told (record_of o c.args.day) c.in-Some.old tells in
    let whole : to_z w64 (of_z w64 c.from.result) ≡ pos c.args.day = search rules in
    let seek =
    subst₂ (λ (n : ℕ) (m : PageMap). (t : ℕ) → IsDb n our_trees m → Names n our_trees m t Table c.args.roots.seals
    → reals_at our_trees t ≡ 0
    → Finds (trees_in n our_trees m t) (to_z w64 (of_z w64 c.from.result)) c.find_row.new.row c.in_ok-there.there)
    c.unsealed_day.ensures.kept.same_size c.unsealed_day.ensures.pages (c.in_ok-there.ensures.done (omega arith)) in
    let finds : Finds rows (pos c.args.day) c.find_row.new.row true =
    subst₂ (λ n f. Finds rows n c.find_row.new.row f) whole c.if-not-there.false
    (seek 4 has.holds.db (seals_at has) refl) in
    let its = day_row_found seal_row (λ d. refl) c.args.day o.days rows c.find_row.new.row has.holds.office.fits.days
    has.holds.office.tables.seals_are finds in
    absurd (c.in_err-seal.ensures.1 its.record_is.tariffs its.fits.seal.0 (ap (λ (z : Row). column z 2) its.row_is))

pub returns-clause-done : goal.returns-clause-done
returns-clause-done g c clean o has =
    let size = g.P.Pages.size c.args.pages.now in
    let pages = g.P.Pages.pages c.args.pages.now in
    let rows = trees_in size our_trees pages 4 in
    let tells = subst (TellsDay (record_of o c.args.day)) c.in-Some.is
    ((c.in_ok-old.ensures.done (omega (arith, c.find_row.ensures.kept.clean))) o has) in
    let told = is_told (record_of o c.args.day) c.in-Some.old tells in
    let whole : to_z w64 (of_z w64 c.from.result) ≡ pos c.args.day = search rules in
    let seek =
    subst₂ (λ (n : ℕ) (m : PageMap). (t : ℕ) → IsDb n our_trees m → Names n our_trees m t Table c.args.roots.seals
    → reals_at our_trees t ≡ 0
    → Finds (trees_in n our_trees m t) (to_z w64 (of_z w64 c.from.result)) c.find_row.new.row c.in_ok-there.there)
    c.unsealed_day.ensures.kept.same_size c.unsealed_day.ensures.pages (c.in_ok-there.ensures.done (omega arith)) in
    let finds : Finds rows (pos c.args.day) c.find_row.new.row true =
    subst₂ (λ n f. Finds rows n c.find_row.new.row f) whole c.if-not-there.false
    (seek 4 has.holds.db (seals_at has) refl) in
    let its = day_row_found seal_row (λ d. refl) c.args.day o.days rows c.find_row.new.row has.holds.office.fits.days
    has.holds.office.tables.seals_are finds in
    ap Some c.seal.ensures
    ∙ with_its_seal c.in-Some.old told.day its.record_is c.in_ok-seal.seal (sym told.kept_is ∙ its.found) told.told
    (sym (ap (λ (z : Row). column z 2) its.row_is) ∙ c.in_ok-seal.ensures)
    ∙ sym told.kept_is

pub returns-clause-told : goal.returns-clause-told
returns-clause-told g c clean db are =
    let size = g.P.Pages.size c.args.pages.now in
    let pages = g.P.Pages.pages c.args.pages.now in
    let days = trees_in size our_trees pages 0 in
    let seals = trees_in size our_trees pages 4 in
    let old = subst (IsToldOld days c.args.day) c.in-Some.is
    ((c.in_ok-old.ensures.told (omega (arith, c.find_row.ensures.kept.clean))) db are) in
    let whole : to_z w64 (of_z w64 c.from.result) ≡ pos c.args.day = search rules in
    let seek =
    subst₂ (λ (n : ℕ) (m : PageMap). (t : ℕ) → IsDb n our_trees m → Names n our_trees m t Table c.args.roots.seals
    → reals_at our_trees t ≡ 0
    → Finds (trees_in n our_trees m t) (to_z w64 (of_z w64 c.from.result)) c.find_row.new.row c.in_ok-there.there)
    c.unsealed_day.ensures.kept.same_size c.unsealed_day.ensures.pages (c.in_ok-there.ensures.done clean) in
    let finds : Finds seals (pos c.args.day) c.find_row.new.row true =
    subst₂ (λ n f. Finds seals n c.find_row.new.row f) whole c.if-not-there.false (seek 4 db (seals_begin are) refl) in
    subst (IsDayOf days seals c.args.day) (sym c.seal.ensures)
    (record {
      number = old.number;
      row = old.row;
      found = old.found;
      has = old.has;
      seal = c.find_row.new.row;
      sealed = finds;
      tariffs = c.in_ok-seal.ensures;
    })
