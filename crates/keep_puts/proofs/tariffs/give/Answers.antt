use Rattle.std.proofs.Common.{◌≡◌, length, refl, arith}
use Rattle.std.specs.List.{AllByRecursion}
use Rattle.sqlite_value.specs.Order.{Row}
use Rattle.sqlite_trees.specs.Tree.{put_row}
use Rattle.keep_tables.specs.Codec.{tariff_row}
use Rattle.keep_puts.proofs.CauseLaws.{IsPlain, row_err}
use Rattle.std.proofs.lemmas.Result.{on_ok_weaker}
use Rattle.keep_puts.proofs.TariffLaws.{tariff_given}
use Rattle.keep_puts.proofs.WriteLaws.{edits}
use Rattle.keep_puts.proofs.tariffs.give.Goals as goal

pub returns-clause-gave : goal.returns-clause-gave
returns-clause-gave g c clean own =
    let old = g.S.Store.view c.args.store.now in
    let new = g.S.Store.view c.put.new.self in
    on_ok_weaker c.put.result
    (λ sets. tariff_given old new c.args.xway c.args.tariff.now c.ranges.xway.fits c.requires.valid own (sets clean))
    (rw c.in_ok-set_tariff.ensures at c.put.ensures.ok)

pub returns-clause-why : goal.returns-clause-why
returns-clause-why g c clean =
    let row : Row = tariff_row (c.args.xway, c.args.tariff.now) in
    let plain : AllByRecursion IsPlain row = (tt, (tt, (tt, (tt, (tt, tt))))) in
    let long : length row ≡ 5 = refl in
    row_err c.put.result (g.S.Store.view c.args.store.now) _ 5 row (omega arith) plain
    (omega (arith, long)) (omega (arith, long)) (rw c.in_ok-set_tariff.ensures at (c.put.ensures.cause clean))

pub returns-clause-edits : goal.returns-clause-edits
returns-clause-edits g c clean =
    let old = g.S.Store.view c.args.store.now in
    let new = g.S.Store.view c.put.new.self in
    on_ok_weaker c.put.result
    (λ sets. edits old new 5 (put_row (tariff_row (c.args.xway, c.args.tariff.now))) (sets clean))
    (rw c.in_ok-set_tariff.ensures at c.put.ensures.ok)
