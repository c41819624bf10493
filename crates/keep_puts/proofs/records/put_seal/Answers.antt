use Rattle.std.proofs.Common.{◌≡◌, pos, [], ◌∷◌, length, refl, arith}
use Rattle.std.specs.List.{AllByRecursion}
use Rattle.sqlite_value.specs.declared.value.Value.TheVariants.{Null, Int, Blob}
use Rattle.sqlite_value.specs.Order.{Row}
use Rattle.keep_tables.specs.Stands.{IsWholeDigest}
use Rattle.keep_puts.proofs.CauseLaws.{IsPlain, row_err}
use Rattle.keep_puts.proofs.records.put_seal.Goals as goal

pub returns-clause-why : goal.returns-clause-why
returns-clause-why g c clean =
    let row : Row = Int (pos c.args.day) ∷ Null ∷ Blob c.args.seal.now.bytes ∷ [] in
    let one : IsWholeDigest c.args.seal.now = c.in_ok-set_seal.ensures.fits in
    let plain : AllByRecursion IsPlain row = (tt, (tt, (one.0, tt))) in
    let long : length row ≡ 3 = refl in
    row_err c.put_new.result (g.S.Store.view c.args.store.now) _ 4 row (omega arith) plain
    (omega (arith, long)) (omega (arith, long)) (rw c.in_ok-set_seal.ensures.done at (c.put_new.ensures.why clean))
