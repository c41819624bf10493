use Rattle.std.proofs.Common.{[], ◌∷◌, map, refl, ◌∙◌, arith, inl, inr, IsTrue}
use Rattle.sqlite.specs.Held.{state}
use Rattle.sqlite.specs.State.{HasCleanDisk}
use Rattle.keep_tables.specs.Stands.{Holds, contents_of, with_history}
use Rattle.keep_tables.proofs.PutLaws.{adds_holds, past_stands, ok_both, stays_then, survives_both}
use Rattle.keep_writes.specs.Writes.{history_text, amount_text}
use Rattle.keep_writes.proofs.CauseLaws.{err_handed, errs_inside, inside_first, both_ran}
use Rattle.keep_writes.proofs.past_writes.write_past.Goals as goal

pub returns-clause-wrote : goal.returns-clause-wrote
returns-clause-wrote g c clean inside o has none =
    let old = state g.S.Store c.args.tx.now.conn.now in
    let first = state g.S.Store c.put_history.new.tx.conn.now in
    let new = state g.S.Store c.put_amounts.new.tx.conn.now in
    let early : HasCleanDisk first = omega (arith, c.put_amounts.ensures.survives.clean) in
    let two = with_history c.args.kept.now (contents_of o) in
    let recorded : Holds first.now two =
    c.in_ok-put_history.ensures.puts early inside (contents_of o) has.tables none.past in
    let in_first : IsTrue first.in_transaction = (c.in_ok-put_history.ensures.inside early inside).mode ∙ inside in
    ok_both c.put_amounts.result _ _ _ (c.put_amounts.ensures.adds clean in_first recorded.schema)
    c.put_amounts.ensures.fits
    (λ adds small. past_stands old.now new.now o c.args.kept.now c.args.rows.now has c.requires none
    c.put_history.ensures.fits small (adds_holds first.now new.now two c.args.rows.now recorded adds))

pub put_amounts-requires : goal.put_amounts-requires
put_amounts-requires g c = c.requires.small

pub returns-clause-inside : goal.returns-clause-inside
returns-clause-inside g c clean inside =
    let old = state g.S.Store c.args.tx.now.conn.now in
    let first = state g.S.Store c.put_history.new.tx.conn.now in
    let new = state g.S.Store c.put_amounts.new.tx.conn.now in
    let early : HasCleanDisk first = omega (arith, c.put_amounts.ensures.survives.clean) in
    let one = c.in_ok-put_history.ensures.inside early inside in
    stays_then old first new c.put_amounts.result one
    (c.put_amounts.ensures.inside clean one.is_open (one.mode ∙ inside))

pub returns-in_err-put_history-clause-refused : goal.returns-in_err-put_history-clause-refused
returns-in_err-put_history-clause-refused g c clean inside =
    err_handed c.from_residual.result c.in_err-put_history.field-0.0 _ c.from_residual.ensures.1
    (inside_first g.S.Store (history_text c.args.kept.now ∷ []) (map amount_text c.args.rows.now)
    c.args.tx.now.conn.now c.put_history.new.tx.conn.now _ (c.in_err-put_history.ensures.refused clean inside))

pub returns-clause-refused : goal.returns-clause-refused
returns-clause-refused g c clean inside =
    let first = state g.S.Store c.put_history.new.tx.conn.now in
    let early : HasCleanDisk first = omega (arith, c.put_amounts.ensures.survives.clean) in
    let one = c.in_ok-put_history.ensures.inside early inside in
    errs_inside g.S.Store (history_text c.args.kept.now ∷ []) (map amount_text c.args.rows.now)
    c.args.tx.now.conn.now c.put_history.new.tx.conn.now c.put_amounts.new.tx.conn.now c.put_amounts.result
    (c.in_ok-put_history.ensures.ran early inside) one c.put_history.ensures.survives
    (c.put_amounts.ensures.refused clean (one.mode ∙ inside))

pub returns-clause-ran : goal.returns-clause-ran
returns-clause-ran g c clean inside =
    let first = state g.S.Store c.put_history.new.tx.conn.now in
    let early : HasCleanDisk first = omega (arith, c.put_amounts.ensures.survives.clean) in
    let one = c.in_ok-put_history.ensures.inside early inside in
    both_ran g.S.Store (history_text c.args.kept.now ∷ []) (map amount_text c.args.rows.now)
    c.args.tx.now.conn.now c.put_history.new.tx.conn.now c.put_amounts.new.tx.conn.now c.put_amounts.result
    (c.in_ok-put_history.ensures.ran early inside) (c.put_amounts.ensures.ran clean (one.mode ∙ inside))

pub returns-clause-survives : goal.returns-clause-survives
returns-clause-survives g c =
    survives_both (state g.S.Store c.args.tx.now.conn.now) (state g.S.Store c.put_history.new.tx.conn.now)
    (state g.S.Store c.put_amounts.new.tx.conn.now) c.put_history.ensures.survives c.put_amounts.ensures.survives
