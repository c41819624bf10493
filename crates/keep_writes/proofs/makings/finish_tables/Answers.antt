use Rattle.std.proofs.Common.{[], ◌∙◌, inr, IsTrue, arith}
use Rattle.sqlite.specs.Held.{state}
use Rattle.sqlite.specs.State.{HasCleanDisk}
use Rattle.keep_tables.specs.Stands.{contents_of}
use Rattle.keep_tables.proofs.PutLaws.{stays_then, shows_then, survives_both}
use Rattle.keep_writes.proofs.GrowLaws.{on_ok}
use Rattle.keep_writes.proofs.CauseLaws.{err_handed, err_then}
use Rattle.keep_writes.specs.Unmade.{new_texts, EndsTables}
use Rattle.keep_writes.proofs.UnmadeRuns.{first_ends, then_ends, behind_ends, seals_after}
use Rattle.keep_writes.proofs.makings.finish_tables.Goals as goal

pub returns-clause-wrote : goal.returns-clause-wrote
returns-clause-wrote g c clean inside o has =
    let first = state g.S.Store c.make_rest.new.tx.conn.now in
    let second = state g.S.Store c.seal_tables.new.tx.conn.now in
    let late : HasCleanDisk second = omega (arith, c.put_version.ensures.survives.clean) in
    let early : HasCleanDisk first = omega (arith, late, c.seal_tables.ensures.survives.clean) in
    let rest = c.in_ok-make_rest.ensures.made early inside o has in
    let one = c.in_ok-make_rest.ensures.inside early inside in
    let in_first : IsTrue first.in_transaction = one.mode ∙ inside in
    let sealed = c.in_ok-seal_tables.ensures.seals late in_first o rest in
    let in_second : IsTrue second.in_transaction = (c.in_ok-seal_tables.ensures.inside late one.is_open in_first).mode
    ∙ in_first in
    on_ok c.put_version.result _ _ (c.put_version.ensures.puts clean in_second (contents_of o) sealed)
    (λ tables. record { tables = tables; fits = rest.fits; sound = rest.sound })

pub returns-clause-inside : goal.returns-clause-inside
returns-clause-inside g c clean inside =
    let old = state g.S.Store c.args.tx.now.conn.now in
    let first = state g.S.Store c.make_rest.new.tx.conn.now in
    let second = state g.S.Store c.seal_tables.new.tx.conn.now in
    let new = state g.S.Store c.put_version.new.tx.conn.now in
    let late : HasCleanDisk second = omega (arith, c.put_version.ensures.survives.clean) in
    let early : HasCleanDisk first = omega (arith, late, c.seal_tables.ensures.survives.clean) in
    let one = c.in_ok-make_rest.ensures.inside early inside in
    let two = c.in_ok-seal_tables.ensures.inside late one.is_open (one.mode ∙ inside) in
    stays_then old second new c.put_version.result (shows_then old first second one two)
    (c.put_version.ensures.inside clean (two.mode ∙ (one.mode ∙ inside)))

pub returns-clause-survives : goal.returns-clause-survives
returns-clause-survives g c =
    let old = state g.S.Store c.args.tx.now.conn.now in
    let first = state g.S.Store c.make_rest.new.tx.conn.now in
    let second = state g.S.Store c.seal_tables.new.tx.conn.now in
    survives_both old second (state g.S.Store c.put_version.new.tx.conn.now)
    (survives_both old first second c.make_rest.ensures.survives c.seal_tables.ensures.survives)
    c.put_version.ensures.survives

pub returns-in_err-make_rest-clause-refused : goal.returns-in_err-make_rest-clause-refused
returns-in_err-make_rest-clause-refused g c clean inside =
    err_handed c.from_residual.result c.in_err-make_rest.field-0.0 _ c.from_residual.ensures.1
    (first_ends g.S.Store new_texts [] c.args.tx.now.conn.now c.make_rest.new.tx.conn.now _
    (c.in_err-make_rest.ensures.refused clean inside))

pub returns-in_err-seal_tables-clause-refused : goal.returns-in_err-seal_tables-clause-refused
returns-in_err-seal_tables-clause-refused g c clean inside =
    let old = c.args.tx.now.conn.now in
    let first = c.make_rest.new.tx.conn.now in
    let early : HasCleanDisk (state g.S.Store first) = omega (arith, c.seal_tables.ensures.survives.clean) in
    let one = c.in_ok-make_rest.ensures.inside early inside in
    err_handed c.from_residual-in_err-seal_tables.result c.in_err-seal_tables.field-0.0 _
    c.from_residual-in_err-seal_tables.ensures.1
    (then_ends g.S.Store new_texts [] old first c.seal_tables.new.tx.conn.now _
    (c.in_ok-make_rest.ensures.texts early inside) one c.make_rest.ensures.survives
    (c.in_err-seal_tables.ensures.refused clean (one.mode ∙ inside)))

pub returns-clause-refused : goal.returns-clause-refused
returns-clause-refused g c clean inside =
    let old = c.args.tx.now.conn.now in
    let first = c.make_rest.new.tx.conn.now in
    let second = c.seal_tables.new.tx.conn.now in
    let new = c.put_version.new.tx.conn.now in
    let late : HasCleanDisk (state g.S.Store second) = omega (arith, c.put_version.ensures.survives.clean) in
    let early : HasCleanDisk (state g.S.Store first) = omega (arith, late, c.seal_tables.ensures.survives.clean) in
    let one = c.in_ok-make_rest.ensures.inside early inside in
    let two = c.in_ok-seal_tables.ensures.inside late one.is_open (one.mode ∙ inside) in
    let sealed =
    seals_after g.S.Store new_texts [] old first second (c.in_ok-make_rest.ensures.texts early inside)
    (c.in_ok-seal_tables.ensures.texts late (one.mode ∙ inside)) in
    err_then c.put_version.result _ _ (c.put_version.ensures.refused clean (two.mode ∙ (one.mode ∙ inside)))
    (λ e fails. behind_ends g.S.Store (EndsTables g.S.Store new_texts) old second new e (two.mode ∙ (one.mode ∙ inside))
    (shows_then (state g.S.Store old) (state g.S.Store first) (state g.S.Store second) one two)
    (survives_both (state g.S.Store old) (state g.S.Store first) (state g.S.Store second) c.make_rest.ensures.survives
    c.seal_tables.ensures.survives) (inr (inr (inr (sealed, fails)))))

pub returns-clause-texts : goal.returns-clause-texts
returns-clause-texts g c clean inside =
    let old = c.args.tx.now.conn.now in
    let first = c.make_rest.new.tx.conn.now in
    let second = c.seal_tables.new.tx.conn.now in
    let late : HasCleanDisk (state g.S.Store second) = omega (arith, c.put_version.ensures.survives.clean) in
    let early : HasCleanDisk (state g.S.Store first) = omega (arith, late, c.seal_tables.ensures.survives.clean) in
    let one = c.in_ok-make_rest.ensures.inside early inside in
    let two = c.in_ok-seal_tables.ensures.inside late one.is_open (one.mode ∙ inside) in
    on_ok c.put_version.result _ _ (c.put_version.ensures.texts clean (two.mode ∙ (one.mode ∙ inside)))
    (λ ran. record {
      last = second;
      seals = seals_after g.S.Store new_texts [] old first second (c.in_ok-make_rest.ensures.texts early inside)
          (c.in_ok-seal_tables.ensures.texts late (one.mode ∙ inside));
      ran = ran;
    })
