use Rattle.std.proofs.Common.{rules, ◌≡◌, pos, refl, sym, ap, subst, ◌∙◌, arith, to_z, of_z, w64}
use Rattle.std.proofs.Math.Path.{subst₃}
use Rattle.std.proofs.lemmas.Result.{err_from_is_err_and}
use Rattle.sqlite_value.specs.declared.value.Value.TheVariants.{Int}
use Rattle.sqlite_btree.specs.Stored.{IsLaidIn, as_row}
use Rattle.sqlite_btree.specs.Batch.{IsBatchOf, TookLast, taken}
use Rattle.sqlite_store.specs.Db.{table_row}
use Rattle.sqlite_btree.proofs.Results.{within_limit}
use Rattle.sqlite_store.proofs.DbLemmas.{named_laid}
use Rattle.keep_trees.proofs.Premise.{days_at, days_begins}
use Rattle.keep_trees.proofs.TreeReads.{table_shows}
use Rattle.keep_trees.proofs.DayFound.{last_fits}
use Rattle.keep_trees.proofs.LastFound.{none_found, last_found, none_there, last_there}
use Rattle.keep_trees.proofs.day_rows.greatest_day.Goals as goal

pub returns-in_err-fill_back-clause-done : goal.returns-in_err-fill_back-clause-done
returns-in_err-fill_back-clause-done g c clean o has =
    let laid = named_laid has.holds.db (days_at has) in
    let p = err_from_is_err_and c.from_residual.result c.from_residual.ensures.1 in
    rw (p.1, p.2) ((c.in_err-fill_back.ensures.done (omega arith)) _ laid.1.0 laid.0 laid.1.1)

pub returns-in_err-next_back-clause-done : goal.returns-in_err-next_back-clause-done
returns-in_err-next_back-clause-done g c clean o has =
    let pages = g.P.Pages.pages c.args.pages.now in
    let size = g.P.Pages.size c.args.pages.now in
    let layout = has.holds.db.layouts 1 in
    let laid = named_laid has.holds.db (days_at has) in
    let are = sym (table_shows (days_at has) refl) ∙ has.holds.office.tables.days_are in
    let filled =
    (c.in_ok-fill_back.ensures.done (omega (arith, c.next_back.ensures.kept.clean))) layout laid.1.0 laid.0 laid.1.1 in
    let p = err_from_is_err_and c.from_residual-in_err-next_back.result c.from_residual-in_err-next_back.ensures.1 in
    let cause =
    (c.in_err-next_back.ensures.done (omega arith)) layout
    (subst (IsLaidIn layout) (sym c.fill_back.ensures.pages) laid.0)
    (subst (λ n. IsBatchOf layout n c.fill_back.new.batch) (sym c.fill_back.ensures.kept.same_size) filled.valid) in
    rw (p.1, p.2) (within_limit _ _ _ ⊥ _ c.fill_back.ensures.kept.more_faults cause)

pub returns-then-not-branch-clause-done : goal.returns-then-not-branch-clause-done
returns-then-not-branch-clause-done g c clean o has =
    let pages = g.P.Pages.pages c.args.pages.now in
    let size = g.P.Pages.size c.args.pages.now in
    let layout = has.holds.db.layouts 1 in
    let laid = named_laid has.holds.db (days_at has) in
    let are = sym (table_shows (days_at has) refl) ∙ has.holds.office.tables.days_are in
    let filled =
    (c.in_ok-fill_back.ensures.done (omega (arith, c.next_back.ensures.kept.clean))) layout laid.1.0 laid.0 laid.1.1 in
    let took =
    subst₃ (λ n m f. TookLast layout n m c.fill_back.new.batch c.next_back.new.self f)
    c.fill_back.ensures.kept.same_size
    c.fill_back.ensures.pages c.if-not-branch.true
    ((c.in_ok-next_back.ensures.done (omega arith)) layout
    (subst (IsLaidIn layout) (sym c.fill_back.ensures.pages) laid.0)
    (subst (λ n. IsBatchOf layout n c.fill_back.new.batch) (sym c.fill_back.ensures.kept.same_size) filled.valid)) in
    none_found pages c.fill_back.new.batch laid.0 laid.1.1 _ refl filled o.days are took.0

pub returns-in_err-day-clause-done : goal.returns-in_err-day-clause-done
returns-in_err-day-clause-done g c clean o has =
    let pages = g.P.Pages.pages c.args.pages.now in
    let size = g.P.Pages.size c.args.pages.now in
    let layout = has.holds.db.layouts 1 in
    let laid = named_laid has.holds.db (days_at has) in
    let are = sym (table_shows (days_at has) refl) ∙ has.holds.office.tables.days_are in
    let filled =
    (c.in_ok-fill_back.ensures.done (omega (arith, c.next_back.ensures.kept.clean))) layout laid.1.0 laid.0 laid.1.1 in
    let took =
    subst₃ (λ n m f. TookLast layout n m c.fill_back.new.batch c.next_back.new.self f)
    c.fill_back.ensures.kept.same_size
    c.fill_back.ensures.pages c.if-not-branch.false
    ((c.in_ok-next_back.ensures.done (omega arith)) layout
    (subst (IsLaidIn layout) (sym c.fill_back.ensures.pages) laid.0)
    (subst (λ n. IsBatchOf layout n c.fill_back.new.batch) (sym c.fill_back.ensures.kept.same_size) filled.valid)) in
    let its = last_found pages c.fill_back.new.batch laid.0 laid.1.1 _ refl filled o.days are c.next_back.new.self
    took.0 in
    let whole : to_z w64 (of_z w64 c.rowid.result) ≡ c.rowid.result = search rules in
    absurd (c.in_err-day.ensures.1 its.last.day
    (last_fits o.days its.before its.last has.holds.office.fits.days its.split)
    (whole ∙ c.rowid.ensures ∙ its.number))

pub returns-clause-done : goal.returns-clause-done
returns-clause-done g c clean o has =
    let pages = g.P.Pages.pages c.args.pages.now in
    let size = g.P.Pages.size c.args.pages.now in
    let layout = has.holds.db.layouts 1 in
    let laid = named_laid has.holds.db (days_at has) in
    let are = sym (table_shows (days_at has) refl) ∙ has.holds.office.tables.days_are in
    let filled =
    (c.in_ok-fill_back.ensures.done (omega (arith, c.next_back.ensures.kept.clean))) layout laid.1.0 laid.0 laid.1.1 in
    let took =
    subst₃ (λ n m f. TookLast layout n m c.fill_back.new.batch c.next_back.new.self f)
    c.fill_back.ensures.kept.same_size
    c.fill_back.ensures.pages c.if-not-branch.false
    ((c.in_ok-next_back.ensures.done (omega arith)) layout
    (subst (IsLaidIn layout) (sym c.fill_back.ensures.pages) laid.0)
    (subst (λ n. IsBatchOf layout n c.fill_back.new.batch) (sym c.fill_back.ensures.kept.same_size) filled.valid)) in
    let its = last_found pages c.fill_back.new.batch laid.0 laid.1.1 _ refl filled o.days are c.next_back.new.self
    took.0 in
    let whole : to_z w64 (of_z w64 c.rowid.result) ≡ c.rowid.result = search rules in
    let same : pos its.last.day ≡ pos c.in_ok-day.day = sym (whole ∙ c.rowid.ensures ∙ its.number)
    ∙ c.in_ok-day.ensures in
    (its.before, its.last, its.split, cc)

pub returns-then-not-branch-clause-last : goal.returns-then-not-branch-clause-last
returns-then-not-branch-clause-last g c clean db are =
    let pages = g.P.Pages.pages c.args.pages.now in
    let size = g.P.Pages.size c.args.pages.now in
    let layout = db.layouts 1 in
    let laid = named_laid db (days_begins are) in
    let shows = table_shows (days_begins are) refl in
    let filled =
    (c.in_ok-fill_back.ensures.done (omega (arith, c.next_back.ensures.kept.clean))) layout laid.1.0 laid.0 laid.1.1 in
    let took =
    subst₃ (λ n m f. TookLast layout n m c.fill_back.new.batch c.next_back.new.self f)
    c.fill_back.ensures.kept.same_size
    c.fill_back.ensures.pages c.if-not-branch.true
    ((c.in_ok-next_back.ensures.done (omega arith)) layout
    (subst (IsLaidIn layout) (sym c.fill_back.ensures.pages) laid.0)
    (subst (λ n. IsBatchOf layout n c.fill_back.new.batch) (sym c.fill_back.ensures.kept.same_size) filled.valid)) in
    shows ∙ none_there pages c.fill_back.new.batch laid.0 laid.1.1 _ refl filled took.0

pub returns-clause-last : goal.returns-clause-last
returns-clause-last g c clean db are =
    let pages = g.P.Pages.pages c.args.pages.now in
    let size = g.P.Pages.size c.args.pages.now in
    let layout = db.layouts 1 in
    let laid = named_laid db (days_begins are) in
    let shows = table_shows (days_begins are) refl in
    let filled =
    (c.in_ok-fill_back.ensures.done (omega (arith, c.next_back.ensures.kept.clean))) layout laid.1.0 laid.0 laid.1.1 in
    let took =
    subst₃ (λ n m f. TookLast layout n m c.fill_back.new.batch c.next_back.new.self f)
    c.fill_back.ensures.kept.same_size
    c.fill_back.ensures.pages c.if-not-branch.false
    ((c.in_ok-next_back.ensures.done (omega arith)) layout
    (subst (IsLaidIn layout) (sym c.fill_back.ensures.pages) laid.0)
    (subst (λ n. IsBatchOf layout n c.fill_back.new.batch) (sym c.fill_back.ensures.kept.same_size) filled.valid)) in
    let its = last_there pages c.fill_back.new.batch laid.0 laid.1.1 _ refl filled c.next_back.new.self took.0 in
    let whole : to_z w64 (of_z w64 c.rowid.result) ≡ c.rowid.result = search rules in
    let number = sym c.rowid.ensures ∙ sym whole ∙ c.in_ok-day.ensures in
    (its.0, table_row (as_row (taken c.next_back.new.self)), shows ∙ its.1, ap Int number)
