use Rattle.std.proofs.Common.{[], ◌∷◌, ◌∙◌, IsTrue, arith, refl}
use Rattle.sqlite.specs.Held.{state}
use Rattle.sqlite.specs.State.{HasCleanDisk}
use Rattle.keep_writes.proofs.GrowLaws.{on_ok, old_from_nothing}
use Rattle.keep_tables.specs.Texts.{make_days, make_spent, make_past}
use Rattle.keep_tables.proofs.PutLaws.{shows_then, survives_both}
use Rattle.keep_writes.specs.Unmade.{old_texts, RefusesEach}
use Rattle.keep_writes.proofs.CauseLaws.{err_handed, err_then}
use Rattle.keep_writes.proofs.UnmadeRuns.{text_done, step_now, behind_ends}
use Rattle.keep_writes.proofs.RunLaws.{all_none, all_first}
use Rattle.keep_writes.proofs.tables.make_old.Goals as goal

pub returns-clause-made : goal.returns-clause-made
returns-clause-made g c clean inside o none =
    let s0 = state g.S.Store c.args.tx.now.conn.now in
    let s1 = state g.S.Store c.run.new.tx.conn.now in
    let s2 = state g.S.Store c.run-2.new.tx.conn.now in
    let s3 = state g.S.Store c.run-3.new.tx.conn.now in
    let late : HasCleanDisk s2 = omega (arith, c.run-3.ensures.survives.clean) in
    let early : HasCleanDisk s1 = omega (arith, late, c.run-2.ensures.survives.clean) in
    let first : IsTrue s1.in_transaction = (c.in_ok-run.ensures.inside early inside).mode ∙ inside in
    let second : IsTrue s2.in_transaction = (c.in_ok-run-2.ensures.inside late first).mode ∙ first in
    on_ok c.run-3.result _ _ (c.run-3.ensures.ran clean second)
    (old_from_nothing s0 s1 s2 s3 o none (c.in_ok-run.ensures.ran early inside)
    (c.in_ok-run-2.ensures.ran late first))

pub returns-in_err-run-clause-refused : goal.returns-in_err-run-clause-refused
returns-in_err-run-clause-refused g c clean inside =
    let s0 = c.args.tx.now.conn.now in
    let s1 = c.run.new.tx.conn.now in
    err_handed c.from_residual.result c.in_err-run.field-0.0 _ c.from_residual.ensures.1
    (step_now g.S.Store (RefusesEach g.S.Store old_texts) s0 s1 _ inside
    (record {
      done = [];
      text = (make_days, []);
      rest = (make_spent, []) ∷ (make_past, []) ∷ [];
      is = refl;
      ran = all_none g.S.Store s0;
      refused = c.in_err-run.ensures.refused clean inside;
    }))

pub returns-in_err-run-2-clause-refused : goal.returns-in_err-run-2-clause-refused
returns-in_err-run-2-clause-refused g c clean inside =
    let s0 = c.args.tx.now.conn.now in
    let s1 = c.run.new.tx.conn.now in
    let s2 = c.run-2.new.tx.conn.now in
    let early : HasCleanDisk (state g.S.Store s1) = omega (arith, c.run-2.ensures.survives.clean) in
    let one = c.in_ok-run.ensures.inside early inside in
    let first = text_done g.S.Store s0 s1 make_days inside (c.in_ok-run.ensures.within early inside) in
    err_handed c.from_residual-in_err-run-2.result c.in_err-run-2.field-0.0 _ c.from_residual-in_err-run-2.ensures.1
    (behind_ends g.S.Store (RefusesEach g.S.Store old_texts) s0 s1 s2 _ (one.mode ∙ inside) one c.run.ensures.survives
    (record {
      done = (make_days, []) ∷ [];
      text = (make_spent, []);
      rest = (make_past, []) ∷ [];
      is = refl;
      ran = all_first g.S.Store s0 s1 s1 (make_days, []) [] first (all_none g.S.Store s1);
      refused = c.in_err-run-2.ensures.refused clean (one.mode ∙ inside);
    }))

pub returns-clause-refused : goal.returns-clause-refused
returns-clause-refused g c clean inside =
    let s0 = c.args.tx.now.conn.now in
    let s1 = c.run.new.tx.conn.now in
    let s2 = c.run-2.new.tx.conn.now in
    let s3 = c.run-3.new.tx.conn.now in
    let late : HasCleanDisk (state g.S.Store s2) = omega (arith, c.run-3.ensures.survives.clean) in
    let early : HasCleanDisk (state g.S.Store s1) = omega (arith, late, c.run-2.ensures.survives.clean) in
    let one = c.in_ok-run.ensures.inside early inside in
    let two = c.in_ok-run-2.ensures.inside late (one.mode ∙ inside) in
    let first = text_done g.S.Store s0 s1 make_days inside (c.in_ok-run.ensures.within early inside) in
    let second =
    text_done g.S.Store s1 s2 make_spent (one.mode ∙ inside) (c.in_ok-run-2.ensures.within late (one.mode ∙ inside)) in
    err_then c.run-3.result _ _ (c.run-3.ensures.refused clean (two.mode ∙ (one.mode ∙ inside)))
    (λ e fails. behind_ends g.S.Store (RefusesEach g.S.Store old_texts) s0 s2 s3 e (two.mode ∙ (one.mode ∙ inside))
    (shows_then (state g.S.Store s0) (state g.S.Store s1) (state g.S.Store s2) one two)
    (survives_both (state g.S.Store s0) (state g.S.Store s1) (state g.S.Store s2) c.run.ensures.survives
    c.run-2.ensures.survives)
    (record {
      done = (make_days, []) ∷ (make_spent, []) ∷ [];
      text = (make_past, []);
      rest = [];
      is = refl;
      ran = all_first g.S.Store s0 s1 s2 (make_days, []) ((make_spent, []) ∷ []) first
          (all_first g.S.Store s1 s2 s2 (make_spent, []) [] second (all_none g.S.Store s2));
      refused = fails;
    }))

pub returns-clause-texts : goal.returns-clause-texts
returns-clause-texts g c clean inside =
    let s0 = c.args.tx.now.conn.now in
    let s1 = c.run.new.tx.conn.now in
    let s2 = c.run-2.new.tx.conn.now in
    let s3 = c.run-3.new.tx.conn.now in
    let late : HasCleanDisk (state g.S.Store s2) = omega (arith, c.run-3.ensures.survives.clean) in
    let early : HasCleanDisk (state g.S.Store s1) = omega (arith, late, c.run-2.ensures.survives.clean) in
    let one = c.in_ok-run.ensures.inside early inside in
    let two = c.in_ok-run-2.ensures.inside late (one.mode ∙ inside) in
    let first = text_done g.S.Store s0 s1 make_days inside (c.in_ok-run.ensures.within early inside) in
    let second =
    text_done g.S.Store s1 s2 make_spent (one.mode ∙ inside) (c.in_ok-run-2.ensures.within late (one.mode ∙ inside)) in
    on_ok c.run-3.result _ _ (c.run-3.ensures.within clean (two.mode ∙ (one.mode ∙ inside)))
    (λ ran. all_first g.S.Store s0 s1 s3 (make_days, []) ((make_spent, []) ∷ (make_past, []) ∷ []) first
    (all_first g.S.Store s1 s2 s3 (make_spent, []) ((make_past, []) ∷ []) second
    (all_first g.S.Store s2 s3 s3 (make_past, []) []
    (text_done g.S.Store s2 s3 make_past (two.mode ∙ (one.mode ∙ inside)) ran) (all_none g.S.Store s3))))
