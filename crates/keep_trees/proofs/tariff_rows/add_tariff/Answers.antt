use Rattle.std.proofs.Common.{rules, ◌≡◌, pos, ◌+◌, true, false, refl, sym, ap₂, subst, subst₂, ◌∙◌, arith, to_z, of_z, w64}
use Rattle.std.proofs.lemmas.Result.{err_from_is_err_and}
use Rattle.sqlite_trees.specs.View.{Finds}
use Rattle.sqlite_store.specs.Db.{trees_in}
use Rattle.road_time.specs.Tariffs.{with_tariff}
use Rattle.keep_trees.specs.Pages.{our_trees}
use Rattle.keep_trees.proofs.Premise.{tariffs_at, tariffs_begin}
use Rattle.keep_trees.proofs.TariffsFound.{own_row, no_own_row}
use Rattle.keep_trees.proofs.TariffsTold.{told_without, told_with}
use Rattle.keep_trees.specs.Tells.{AreToldBelow}
use Rattle.keep_trees.proofs.tariff_rows.add_tariff.Goals as goal

pub returns-in_err-there-clause-done : goal.returns-in_err-there-clause-done
returns-in_err-there-clause-done g c clean o has got =
    let p = err_from_is_err_and c.from_residual.result c.from_residual.ensures.1 in
    rw (p.1, p.2) ((c.in_err-there.ensures.done (omega arith)) 5 has.holds.db (tariffs_at has) refl)

pub returns-then-not-there-clause-done : goal.returns-then-not-there-clause-done
returns-then-not-there-clause-done g c clean o has got =
    let rows = trees_in (g.P.Pages.size c.args.pages.now) our_trees (g.P.Pages.pages c.args.pages.now) 5 in
    let whole : to_z w64 (of_z w64 c.from.result) ≡ pos c.args.xway = search rules in
    let finds : Finds rows (pos c.args.xway) c.find_row.new.row false =
    subst₂ (λ n f. Finds rows n c.find_row.new.row f) whole c.if-not-there.true
    ((c.in_ok-there.ensures.done (omega arith)) 5 has.holds.db (tariffs_at has) refl) in
    got ∙ no_own_row c.args.xway o.tariffs rows c.find_row.new.row has.holds.office.tables.tariffs_are finds

pub returns-in_err-tariff-clause-done : goal.returns-in_err-tariff-clause-done
returns-in_err-tariff-clause-done g c clean o has got =
    let rows = trees_in (g.P.Pages.size c.args.pages.now) our_trees (g.P.Pages.pages c.args.pages.now) 5 in
    let whole : to_z w64 (of_z w64 c.from.result) ≡ pos c.args.xway = search rules in
    let finds : Finds rows (pos c.args.xway) c.find_row.new.row true =
    subst₂ (λ n f. Finds rows n c.find_row.new.row f) whole c.if-not-there.false
    ((c.in_ok-there.ensures.done (omega arith)) 5 has.holds.db (tariffs_at has) refl) in
    let own = own_row c.args.xway o.tariffs rows c.find_row.new.row has.holds.office.sound.tariffs
    has.holds.office.tables.tariffs_are finds in
    absurd (c.in_err-tariff.ensures.gives c.args.xway own.tariff own.valid own.row_is)

pub returns-in-Ok-clause-done : goal.returns-in-Ok-clause-done
returns-in-Ok-clause-done g c clean o has got =
    let rows = trees_in (g.P.Pages.size c.args.pages.now) our_trees (g.P.Pages.pages c.args.pages.now) 5 in
    let whole : to_z w64 (of_z w64 c.from.result) ≡ pos c.args.xway = search rules in
    let finds : Finds rows (pos c.args.xway) c.find_row.new.row true =
    subst₂ (λ n f. Finds rows n c.find_row.new.row f) whole c.if-not-there.false
    ((c.in_ok-there.ensures.done (omega arith)) 5 has.holds.db (tariffs_at has) refl) in
    let own = own_row c.args.xway o.tariffs rows c.find_row.new.row has.holds.office.sound.tariffs
    has.holds.office.tables.tariffs_are finds in
    let its = c.in_ok-tariff.ensures.gives c.args.xway own.tariff own.valid own.row_is in
    c.in-Ok.ensures.set ∙ ap₂ (λ ts t. with_tariff ts c.args.xway t) got its ∙ own.set

pub returns-then-not-there-clause-told : goal.returns-then-not-there-clause-told
returns-then-not-there-clause-told g c clean db are told =
    let rows = trees_in (g.P.Pages.size c.args.pages.now) our_trees (g.P.Pages.pages c.args.pages.now) 5 in
    let whole : to_z w64 (of_z w64 c.from.result) ≡ pos c.args.xway = search rules in
    let finds : Finds rows (pos c.args.xway) c.find_row.new.row false =
    subst₂ (λ n f. Finds rows n c.find_row.new.row f) whole c.if-not-there.true
    ((c.in_ok-there.ensures.done clean) 5 db (tariffs_begin are) refl) in
    told_without rows c.args.xway c.args.tariffs.now told finds

pub returns-in-Ok-clause-told : goal.returns-in-Ok-clause-told
returns-in-Ok-clause-told g c clean db are told =
    let rows = trees_in (g.P.Pages.size c.args.pages.now) our_trees (g.P.Pages.pages c.args.pages.now) 5 in
    let whole : to_z w64 (of_z w64 c.from.result) ≡ pos c.args.xway = search rules in
    let finds : Finds rows (pos c.args.xway) c.find_row.new.row true =
    subst₂ (λ n f. Finds rows n c.find_row.new.row f) whole c.if-not-there.false
    ((c.in_ok-there.ensures.done clean) 5 db (tariffs_begin are) refl) in
    subst (AreToldBelow rows (c.args.xway + 1)) (sym c.in-Ok.ensures.set)
    (told_with rows c.args.xway c.args.tariffs.now told c.find_row.new.row c.in_ok-tariff.tariff finds
    c.in_ok-tariff.ensures.reads)
