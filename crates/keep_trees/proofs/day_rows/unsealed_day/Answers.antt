use Rattle.std.proofs.Common.{rules, ◌≡◌, pos, true, false, Some, None, refl, sym, subst, subst₂, arith, to_z}
use Rattle.std.proofs.Common.{of_z, w64, Option}
use Rattle.std.proofs.lemmas.Result.{err_from_is_err_and}
use Rattle.sqlite_trees.specs.View.{Finds}
use Rattle.sqlite_store.specs.Db.{trees_in}
use Rattle.keep_office.specs.declared.kept.DayRecord.{DayRecord}
use Rattle.keep_tables.specs.Codec.{day_row}
use Rattle.keep_trees.specs.Pages.{our_trees}
use Rattle.keep_trees.specs.Days.{TellsDay}
use Rattle.keep_trees.proofs.Premise.{days_at, days_begins}
use Rattle.keep_trees.proofs.DayFound.{day_row_found, day_row_none}
use Rattle.keep_trees.proofs.day_rows.unsealed_day.Goals as goal

pub returns-in_err-there-clause-done : goal.returns-in_err-there-clause-done
returns-in_err-there-clause-done g c clean o has =
    let p = err_from_is_err_and c.from_residual.result c.from_residual.ensures.1 in
    rw (p.1, p.2) ((c.in_err-there.ensures.done (omega arith)) 0 has.holds.db (days_at has) refl)

pub returns-then-not-there-clause-done : goal.returns-then-not-there-clause-done
returns-then-not-there-clause-done g c clean o has =
    let rows = trees_in (g.P.Pages.size c.args.pages.now) our_trees (g.P.Pages.pages c.args.pages.now) 0 in
    let whole : to_z w64 (of_z w64 c.from.result) ≡ pos c.args.day = search rules in
    let finds : Finds rows (pos c.args.day) c.find_row.new.row false =
    subst₂ (λ n f. Finds rows n c.find_row.new.row f) whole c.if-not-there.true
    ((c.in_ok-there.ensures.done (omega arith)) 0 has.holds.db (days_at has) refl) in
    subst (λ (r : Option DayRecord). TellsDay r None)
    (sym (day_row_none day_row (λ d. refl) c.args.day o.days rows c.find_row.new.row has.holds.office.tables.days_are
    finds)) tt

pub returns-in_err-record-clause-done : goal.returns-in_err-record-clause-done
returns-in_err-record-clause-done g c clean o has =
    let rows = trees_in (g.P.Pages.size c.args.pages.now) our_trees (g.P.Pages.pages c.args.pages.now) 0 in
    let whole : to_z w64 (of_z w64 c.from.result) ≡ pos c.args.day = search rules in
    let finds : Finds rows (pos c.args.day) c.find_row.new.row true =
    subst₂ (λ n f. Finds rows n c.find_row.new.row f) whole c.if-not-there.false
    ((c.in_ok-there.ensures.done (omega arith)) 0 has.holds.db (days_at has) refl) in
    let its = day_row_found day_row (λ d. refl) c.args.day o.days rows c.find_row.new.row has.holds.office.fits.days
    has.holds.office.tables.days_are finds in
    absurd (c.in_err-record.ensures.gives its.record_is its.fits its.day_is its.row_is)

pub returns-clause-done : goal.returns-clause-done
returns-clause-done g c clean o has =
    let rows = trees_in (g.P.Pages.size c.args.pages.now) our_trees (g.P.Pages.pages c.args.pages.now) 0 in
    let whole : to_z w64 (of_z w64 c.from.result) ≡ pos c.args.day = search rules in
    let finds : Finds rows (pos c.args.day) c.find_row.new.row true =
    subst₂ (λ n f. Finds rows n c.find_row.new.row f) whole c.if-not-there.false
    ((c.in_ok-there.ensures.done (omega arith)) 0 has.holds.db (days_at has) refl) in
    let its = day_row_found day_row (λ d. refl) c.args.day o.days rows c.find_row.new.row has.holds.office.fits.days
    has.holds.office.tables.days_are finds in
    subst (λ (r : Option DayRecord). TellsDay r (Some c.in_ok-record.record)) (sym its.found)
    (c.in_ok-record.ensures.gives its.record_is its.fits its.day_is its.row_is)

pub returns-then-not-there-clause-told : goal.returns-then-not-there-clause-told
returns-then-not-there-clause-told g c clean db are =
    let rows = trees_in (g.P.Pages.size c.args.pages.now) our_trees (g.P.Pages.pages c.args.pages.now) 0 in
    let whole : to_z w64 (of_z w64 c.from.result) ≡ pos c.args.day = search rules in
    subst₂ (λ n f. Finds rows n c.find_row.new.row f) whole c.if-not-there.true
    ((c.in_ok-there.ensures.done clean) 0 db (days_begins are) refl)

pub returns-clause-told : goal.returns-clause-told
returns-clause-told g c clean db are =
    let rows = trees_in (g.P.Pages.size c.args.pages.now) our_trees (g.P.Pages.pages c.args.pages.now) 0 in
    let whole : to_z w64 (of_z w64 c.from.result) ≡ pos c.args.day = search rules in
    let finds : Finds rows (pos c.args.day) c.find_row.new.row true =
    subst₂ (λ n f. Finds rows n c.find_row.new.row f) whole c.if-not-there.false
    ((c.in_ok-there.ensures.done clean) 0 db (days_begins are) refl) in
    record {
      number = c.in_ok-record.ensures.numbered;
      row = c.find_row.new.row;
      found = finds;
      has = c.in_ok-record.ensures.reads;
    }
