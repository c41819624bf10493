use Rattle.std.proofs.Common.{◌∙◌, Bool, sym, subst, arith}
use Rattle.sqlite.specs.Held.{state}
use Rattle.sqlite.specs.State.{HasCleanDisk}
use Rattle.std.proofs.Common.{IfErr, OnOk}
use Rattle.keep_writes.specs.Unmade.{old_texts, new_texts, lacking_texts, MakesTables, EndsTables, EndsInside}
use Rattle.keep_writes.proofs.CauseLaws.{err_handed, err_then}
use Rattle.keep_writes.proofs.GrowLaws.{on_ok}
use Rattle.keep_writes.proofs.UnmadeRuns.{first_ends, then_ends, makes_after}
use Rattle.keep_writes.proofs.makings.write_tables.Goals as goal

pub returns-then-is_old-clause-refused : goal.returns-then-is_old-clause-refused
returns-then-is_old-clause-refused g c clean inside =
    subst (λ (b : Bool). IfErr c.finish_tables.result (EndsInside g.S.Store (EndsTables g.S.Store (lacking_texts b))
    c.args.tx.now.conn.now c.finish_tables.new.tx.conn.now)) (sym c.if-is_old.true)
    (c.finish_tables.ensures.refused clean inside)

pub returns-then-is_old-clause-texts : goal.returns-then-is_old-clause-texts
returns-then-is_old-clause-texts g c clean inside =
    subst (λ (b : Bool). OnOk c.finish_tables.result (MakesTables g.S.Store (lacking_texts b) c.args.tx.now.conn.now
    c.finish_tables.new.tx.conn.now)) (sym c.if-is_old.true) (c.finish_tables.ensures.texts clean inside)

pub returns-in_err-make_old-clause-refused : goal.returns-in_err-make_old-clause-refused
returns-in_err-make_old-clause-refused g c clean inside =
    err_handed c.from_residual.result c.in_err-make_old.field-0.0 _ c.from_residual.ensures.1
    (subst (λ (b : Bool). EndsInside g.S.Store (EndsTables g.S.Store (lacking_texts b)) c.args.tx.now.conn.now
    c.make_old.new.tx.conn.now c.in_err-make_old.field-0.0) (sym c.if-is_old.false)
    (first_ends g.S.Store old_texts new_texts c.args.tx.now.conn.now c.make_old.new.tx.conn.now _
    (c.in_err-make_old.ensures.refused clean inside)))

pub returns-clause-refused : goal.returns-clause-refused
returns-clause-refused g c clean inside =
    let old = c.args.tx.now.conn.now in
    let first = c.make_old.new.tx.conn.now in
    let new = c.finish_tables-2.new.tx.conn.now in
    let early : HasCleanDisk (state g.S.Store first) = omega (arith, c.finish_tables-2.ensures.survives.clean) in
    let one = c.in_ok-make_old.ensures.inside early inside in
    err_then c.finish_tables-2.result _ _ (c.finish_tables-2.ensures.refused clean (one.mode ∙ inside))
    (λ e h. subst (λ (b : Bool). EndsInside g.S.Store (EndsTables g.S.Store (lacking_texts b)) old new e)
    (sym c.if-is_old.false)
    (then_ends g.S.Store old_texts new_texts old first new e (c.in_ok-make_old.ensures.texts early inside) one
    c.make_old.ensures.survives h))

pub returns-clause-texts : goal.returns-clause-texts
returns-clause-texts g c clean inside =
    let old = c.args.tx.now.conn.now in
    let first = c.make_old.new.tx.conn.now in
    let new = c.finish_tables-2.new.tx.conn.now in
    let early : HasCleanDisk (state g.S.Store first) = omega (arith, c.finish_tables-2.ensures.survives.clean) in
    let one = c.in_ok-make_old.ensures.inside early inside in
    on_ok c.finish_tables-2.result _ _ (c.finish_tables-2.ensures.texts clean (one.mode ∙ inside))
    (λ h. subst (λ (b : Bool). MakesTables g.S.Store (lacking_texts b) old new) (sym c.if-is_old.false)
    (makes_after g.S.Store old_texts new_texts old first new (c.in_ok-make_old.ensures.texts early inside) h))
