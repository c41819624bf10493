use Rattle.std.proofs.Common.{◌≡◌, length, refl, to_z, of_z, w64, arith, rules}
use Rattle.std.specs.List.{AllByRecursion}
use Rattle.sqlite_value.specs.Order.{Row}
use Rattle.sqlite_trees.specs.View.{IsClean}
use Rattle.sqlite_sql.specs.Catalog.{entry_of}
use Rattle.keep_puts.specs.Trees.{key_columns}
use Rattle.keep_puts.specs.Steps.{numbered}
use Rattle.keep_puts.specs.Causes.{StepCause}
use Rattle.keep_puts.proofs.CauseLaws.{IsPlain, row_cause, entry_err, err_written, handed_on}
use Rattle.keep_puts.proofs.amounts.put_amount.Goals as goal

pub returns-in_err-set_amount-clause-fits : goal.returns-in_err-set_amount-clause-fits
returns-in_err-set_amount-clause-fits g c = (search rules, search rules, search rules, c.requires.small)

pub returns-in_err-set_entry-clause-fits : goal.returns-in_err-set_entry-clause-fits
returns-in_err-set_entry-clause-fits g c = (search rules, search rules, search rules, c.requires.small)

pub returns-in_err-put-clause-fits : goal.returns-in_err-put-clause-fits
returns-in_err-put-clause-fits g c = (search rules, search rules, search rules, c.requires.small)

pub returns-clause-fits : goal.returns-clause-fits
returns-clause-fits g c = (search rules, search rules, search rules, c.requires.small)

pub returns-in_err-put-clause-why : goal.returns-in_err-put-clause-why
returns-in_err-put-clause-why g c clean =
    let number = to_z w64 (of_z w64 c.args.number) in
    let row : Row = numbered number c.args.row.now in
    let plain : AllByRecursion IsPlain row = (tt, (tt, (tt, (tt, (tt, tt))))) in
    let long : length row ≡ 5 = refl in
    handed_on c.from_residual-in_err-put.result c.in_err-put.field-0.0
    (StepCause g.S.Store c.args.store.now c.put.new.self) c.from_residual-in_err-put.ensures.1
    (row_cause (g.S.Store.view c.args.store.now) _ 1 row c.in_err-put.field-0.0 (omega arith) plain
    (omega (arith, long)) (omega (arith, long)) (rw c.in_ok-set_amount.ensures at (c.in_err-put.ensures.cause clean)))

pub returns-clause-why : goal.returns-clause-why
returns-clause-why g c clean =
    let mid = g.S.Store.view c.put.new.self in
    let early : IsClean mid = omega (arith, clean, c.insert.ensures.quiet.clean) in
    let number = to_z w64 (of_z w64 c.args.number) in
    let entry : Row = entry_of key_columns (numbered number c.args.row.now) in
    let plain : AllByRecursion IsPlain entry = (tt, (tt, (tt, (tt, tt)))) in
    let long : length entry ≡ 4 = refl in
    err_written g.S.Store c.insert.result c.args.store.now c.put.new.self c.insert.new.self
    c.put.ensures.quiet.counts (c.in_ok-put.ensures.frame early)
    (entry_err c.insert.result mid _ 2 entry (omega arith) plain (omega (arith, long)) (omega (arith, long))
    (rw c.in_ok-set_entry.ensures at (c.insert.ensures.cause clean)))
