use Rattle.std.proofs.Common.{◌^◌, [], ◌∷◌, map, refl, ◌∙◌, arith, inl, inr, IsTrue}
use Rattle.sqlite.specs.Held.{state}
use Rattle.sqlite.specs.State.{HasCleanDisk}
use Rattle.keep_tables.specs.Stands.{Holds, FitsDay, contents_of, with_record, with_seal}
use Rattle.keep_tables.proofs.PutLaws.{days_before, below_sum, adds_holds, day_stands, ok_both, stays_then, shows_then}
use Rattle.keep_tables.proofs.PutLaws.{survives_both}
use Rattle.keep_writes.specs.Writes.{record_text, seal_text, amount_text}
use Rattle.keep_writes.proofs.RunLaws.{all_then}
use Rattle.keep_writes.proofs.CauseLaws.{err_handed, errs_inside, kept_inside, inside_after, inside_first, both_ran}
use Rattle.keep_writes.proofs.day_writes.write_day.Goals as goal

pub returns-clause-wrote : goal.returns-clause-wrote
returns-clause-wrote g c clean inside o has later =
    let old = state g.S.Store c.args.tx.now.conn.now in
    let first = state g.S.Store c.put_record.new.tx.conn.now in
    let second = state g.S.Store c.put_seal.new.tx.conn.now in
    let new = state g.S.Store c.put_amounts.new.tx.conn.now in
    let late : HasCleanDisk second = omega (arith, c.put_amounts.ensures.survives.clean) in
    let early : HasCleanDisk first = omega (arith, late, c.put_seal.ensures.survives.clean) in
    let before = days_before o c.args.kept.now.day later in
    let one = contents_of o in
    let two = with_record c.args.kept.now one in
    let three = with_seal c.args.kept.now two in
    let recorded : Holds first.now two = c.in_ok-put_record.ensures.puts early inside one has.tables before in
    let in_first : IsTrue first.in_transaction = (c.in_ok-put_record.ensures.inside early inside).mode ∙ inside in
    let sealed : Holds second.now three =
    c.in_ok-put_seal.ensures.puts late in_first _ two recorded c.args.kept.now refl refl before in
    let in_second : IsTrue second.in_transaction = (c.in_ok-put_seal.ensures.inside late in_first).mode ∙ in_first in
    let fits : FitsDay c.args.kept.now =
    record {
      day = c.put_record.ensures.day;
      bytes = c.requires.bytes;
      tuples = c.requires.tuples;
      notices =
          c.requires.notices;
      total = c.requires.total;
      digest = c.put_record.ensures.digest;
      told =
          c.put_record.ensures.told;
      seal = c.put_seal.ensures.fits;
    } in
    ok_both c.put_amounts.result _ _ _ (c.put_amounts.ensures.adds clean in_second sealed.schema)
    c.put_amounts.ensures.fits
    (λ adds small. day_stands old.now new.now o c.args.kept.now c.args.rows.now has c.requires later fits small
    (adds_holds second.now new.now three c.args.rows.now sealed adds))

pub put_amounts-requires : goal.put_amounts-requires
put_amounts-requires g c = below_sum c.args.rows.now (2 ^ 63) (omega (arith, c.requires.sum, c.requires.total))

pub returns-clause-inside : goal.returns-clause-inside
returns-clause-inside g c clean inside =
    let old = state g.S.Store c.args.tx.now.conn.now in
    let first = state g.S.Store c.put_record.new.tx.conn.now in
    let second = state g.S.Store c.put_seal.new.tx.conn.now in
    let new = state g.S.Store c.put_amounts.new.tx.conn.now in
    let late : HasCleanDisk second = omega (arith, c.put_amounts.ensures.survives.clean) in
    let early : HasCleanDisk first = omega (arith, late, c.put_seal.ensures.survives.clean) in
    let one = c.in_ok-put_record.ensures.inside early inside in
    let two = c.in_ok-put_seal.ensures.inside late (one.mode ∙ inside) in
    stays_then old second new c.put_amounts.result (shows_then old first second one two)
    (c.put_amounts.ensures.inside clean two.is_open (two.mode ∙ (one.mode ∙ inside)))

pub returns-in_err-put_record-clause-refused : goal.returns-in_err-put_record-clause-refused
returns-in_err-put_record-clause-refused g c clean inside =
    err_handed c.from_residual.result c.in_err-put_record.field-0.0 _ c.from_residual.ensures.1
    (inside_first g.S.Store (record_text c.args.kept.now ∷ [])
    (seal_text c.args.kept.now.day c.args.kept.now.tariffs ∷ map amount_text c.args.rows.now) c.args.tx.now.conn.now
    c.put_record.new.tx.conn.now _ (c.in_err-put_record.ensures.refused clean inside))

pub returns-in_err-put_seal-clause-refused : goal.returns-in_err-put_seal-clause-refused
returns-in_err-put_seal-clause-refused g c clean inside =
    let old = state g.S.Store c.args.tx.now.conn.now in
    let first = state g.S.Store c.put_record.new.tx.conn.now in
    let early : HasCleanDisk first = omega (arith, c.put_seal.ensures.survives.clean) in
    let one = c.in_ok-put_record.ensures.inside early inside in
    let seal = seal_text c.args.kept.now.day c.args.kept.now.tariffs in
    err_handed c.from_residual-in_err-put_seal.result c.in_err-put_seal.field-0.0 _
    c.from_residual-in_err-put_seal.ensures.1
    (inside_after g.S.Store (record_text c.args.kept.now ∷ []) (seal ∷ map amount_text c.args.rows.now)
    c.args.tx.now.conn.now c.put_record.new.tx.conn.now c.put_seal.new.tx.conn.now _
    (c.in_ok-put_record.ensures.ran early inside) (kept_inside old first one) c.put_record.ensures.survives
    (inside_first g.S.Store (seal ∷ []) (map amount_text c.args.rows.now) c.put_record.new.tx.conn.now
    c.put_seal.new.tx.conn.now _ (c.in_err-put_seal.ensures.refused clean (one.mode ∙ inside))))

pub returns-clause-refused : goal.returns-clause-refused
returns-clause-refused g c clean inside =
    let old = state g.S.Store c.args.tx.now.conn.now in
    let first = state g.S.Store c.put_record.new.tx.conn.now in
    let second = state g.S.Store c.put_seal.new.tx.conn.now in
    let late : HasCleanDisk second = omega (arith, c.put_amounts.ensures.survives.clean) in
    let early : HasCleanDisk first = omega (arith, late, c.put_seal.ensures.survives.clean) in
    let one = c.in_ok-put_record.ensures.inside early inside in
    let two = c.in_ok-put_seal.ensures.inside late (one.mode ∙ inside) in
    errs_inside g.S.Store
    (record_text c.args.kept.now ∷ seal_text c.args.kept.now.day c.args.kept.now.tariffs ∷ [])
    (map amount_text c.args.rows.now) c.args.tx.now.conn.now c.put_seal.new.tx.conn.now c.put_amounts.new.tx.conn.now
    c.put_amounts.result
    (all_then g.S.Store (record_text c.args.kept.now ∷ [])
    (seal_text c.args.kept.now.day c.args.kept.now.tariffs ∷ []) c.args.tx.now.conn.now c.put_record.new.tx.conn.now
    c.put_seal.new.tx.conn.now (c.in_ok-put_record.ensures.ran early inside)
    (c.in_ok-put_seal.ensures.ran late (one.mode ∙ inside)))
    (shows_then old first second one two)
    (survives_both old first second c.put_record.ensures.survives c.put_seal.ensures.survives)
    (c.put_amounts.ensures.refused clean (two.mode ∙ (one.mode ∙ inside)))

pub returns-clause-ran : goal.returns-clause-ran
returns-clause-ran g c clean inside =
    let old = state g.S.Store c.args.tx.now.conn.now in
    let first = state g.S.Store c.put_record.new.tx.conn.now in
    let second = state g.S.Store c.put_seal.new.tx.conn.now in
    let late : HasCleanDisk second = omega (arith, c.put_amounts.ensures.survives.clean) in
    let early : HasCleanDisk first = omega (arith, late, c.put_seal.ensures.survives.clean) in
    let one = c.in_ok-put_record.ensures.inside early inside in
    let two = c.in_ok-put_seal.ensures.inside late (one.mode ∙ inside) in
    both_ran g.S.Store
    (record_text c.args.kept.now ∷ seal_text c.args.kept.now.day c.args.kept.now.tariffs ∷ [])
    (map amount_text c.args.rows.now) c.args.tx.now.conn.now c.put_seal.new.tx.conn.now c.put_amounts.new.tx.conn.now
    c.put_amounts.result
    (all_then g.S.Store (record_text c.args.kept.now ∷ [])
    (seal_text c.args.kept.now.day c.args.kept.now.tariffs ∷ []) c.args.tx.now.conn.now c.put_record.new.tx.conn.now
    c.put_seal.new.tx.conn.now (c.in_ok-put_record.ensures.ran early inside)
    (c.in_ok-put_seal.ensures.ran late (one.mode ∙ inside)))
    (c.put_amounts.ensures.ran clean (two.mode ∙ (one.mode ∙ inside)))

pub returns-clause-survives : goal.returns-clause-survives
returns-clause-survives g c =
    let old = state g.S.Store c.args.tx.now.conn.now in
    let first = state g.S.Store c.put_record.new.tx.conn.now in
    let second = state g.S.Store c.put_seal.new.tx.conn.now in
    let new = state g.S.Store c.put_amounts.new.tx.conn.now in
    survives_both old second new
    (survives_both old first second c.put_record.ensures.survives c.put_seal.ensures.survives)
    c.put_amounts.ensures.survives
