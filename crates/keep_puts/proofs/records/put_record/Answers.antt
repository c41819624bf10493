use Rattle.std.proofs.Common.{◌≡◌, length, refl, arith}
use Rattle.std.specs.List.{AllByRecursion}
use Rattle.keep_tables.specs.Codec.{day_row}
use Rattle.keep_tables.specs.Stands.{IsWholeDigest}
use Rattle.keep_puts.proofs.CauseLaws.{IsPlain, row_err}
use Rattle.keep_puts.proofs.records.put_record.Goals as goal

pub returns-clause-why : goal.returns-clause-why
returns-clause-why g c clean =
    let kept = c.args.kept.now in
    let one : IsWholeDigest kept.digest = c.in_ok-set_day.ensures.fits.0 in
    let two : IsWholeDigest kept.notices_digest = c.in_ok-set_day.ensures.fits.1 in
    let plain : AllByRecursion IsPlain (day_row kept) =
    (tt, (tt, (one.0, (tt, (tt, (tt, (two.0, (tt, tt)))))))) in
    let long : length (day_row kept) ≡ 8 = refl in
    row_err c.put_new.result (g.S.Store.view c.args.store.now) _ 0 (day_row kept) (omega arith) plain
    (omega (arith, long)) (omega (arith, long)) (rw c.in_ok-set_day.ensures.done at (c.put_new.ensures.why clean))
