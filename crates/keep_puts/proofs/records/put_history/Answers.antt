use Rattle.std.proofs.Common.{◌≡◌, length, refl, arith}
use Rattle.std.specs.List.{AllByRecursion}
use Rattle.keep_tables.specs.Codec.{past_row}
use Rattle.keep_tables.specs.Stands.{IsWholeDigest, FitsPast}
use Rattle.keep_puts.proofs.CauseLaws.{IsPlain, row_err}
use Rattle.keep_puts.proofs.records.put_history.Goals as goal

pub returns-clause-why : goal.returns-clause-why
returns-clause-why g c clean =
    let kept = c.args.kept.now in
    let fits : FitsPast kept = c.in_ok-set_past.ensures.fits in
    let one : IsWholeDigest kept.digest = fits.3 in
    let plain : AllByRecursion IsPlain (past_row kept) = (tt, (tt, (tt, (one.0, (tt, (tt, tt)))))) in
    let long : length (past_row kept) ≡ 6 = refl in
    row_err c.put_new.result (g.S.Store.view c.args.store.now) _ 3 (past_row kept) (omega arith) plain
    (omega (arith, long)) (omega (arith, long)) (rw c.in_ok-set_past.ensures.done at (c.put_new.ensures.why clean))
