use Rattle.std.proofs.Common.{refl, inl, sym, subst, arith}
use Rattle.sqlite.specs.Effect.{Database}
use Rattle.sqlite.specs.Held.{state}
use Rattle.sqlite.specs.State.{HasCleanDisk}
use Rattle.sqlite.proofs.StateLemmas.{survives_weaker}
use Rattle.keep_office.specs.Kept.{HasNoDays, with_past}
use Rattle.keep_tables.specs.Stands.{HasOffice}
use Rattle.keep_tables.proofs.StepLaws.{kept_then}
use Rattle.keep_writes.proofs.GrowLaws.{err_stands}
use Rattle.keep_database.proofs.StandLaws.{put_stands, put_lasts, spared_after, always}
use Rattle.keep_database.proofs.CauseSteps.{causes_after, told_after, on_err, on_else}
use Rattle.keep_writes.specs.Writes.{past_texts}
use Rattle.keep_writes.proofs.CauseLaws.{err_handed, cause_idle, on_then}
use Rattle.keep_writes.proofs.RunLaws.{commits_after, leaves_behind}
use Rattle.keep_database.proofs.calls.put_past.Goals as goal

pub returns-in_err-ready-clause-put : goal.returns-in_err-ready-clause-put
returns-in_err-ready-clause-put g c clean here o stands fit =
    err_stands (state g.S.Store c.args.conn.now) (state g.S.Store c.ready.new.conn) c.from_residual.result _ o
    c.from_residual.ensures.0 here stands (c.in_err-ready.ensures.kept clean)

pub returns-in_err-ready-clause-why : goal.returns-in_err-ready-clause-why
returns-in_err-ready-clause-why g c clean o stands =
    err_handed c.from_residual.result c.in_err-ready.field-0.0 _ c.from_residual.ensures.1
    (cause_idle g.S.Store (past_texts c.args.kept.now c.args.rows.now) c.args.conn.now c.ready.new.conn
    c.in_err-ready.field-0.0 (c.in_err-ready.ensures.why clean o stands))

pub returns-clause-put : goal.returns-clause-put
returns-clause-put g c clean here o stands fit =
    let mid = state g.S.Store c.ready.new.conn in
    let early : HasCleanDisk mid = omega (arith, c.put_past.ensures.crash.clean) in
    let there = c.in_ok-ready.ensures.stands early o stands in
    let kept = (c.ready.ensures.kept early).committed there.0 in
    put_stands (state g.S.Store c.args.conn.now) mid (state g.S.Store c.put_past.new.conn) c.put_past.result _ o here
    kept stands
    (c.put_past.ensures.put clean o (subst (λ (db : Database). HasOffice db o) (sym kept) there.1) fit)
    (c.put_past.ensures.refused clean)

pub returns-clause-why : goal.returns-clause-why
returns-clause-why g c clean o stands =
    causes_after g.S.Store c.args.conn.now c.ready.new.conn c.put_past.new.conn
    (c.ready.ensures.kept (omega (arith, c.put_past.ensures.crash.clean))) c.ready.ensures.survives
    (past_texts c.args.kept.now c.args.rows.now) c.put_past.result
    (c.put_past.ensures.why clean)

pub returns-clause-crash : goal.returns-clause-crash
returns-clause-crash g c =
    put_lasts (state g.S.Store c.args.conn.now) (state g.S.Store c.ready.new.conn) (state g.S.Store c.put_past.new.conn)
    HasNoDays (with_past c.args.kept.now c.args.rows.now)
    (λ early o stands. c.in_ok-ready.ensures.stands early o stands) c.ready.ensures.kept c.ready.ensures.survives
    c.put_past.ensures.crash

pub returns-clause-version : goal.returns-clause-version
returns-clause-version g c clean =
    always c.put_past.result _
    (record {
      now = c.ready.new.conn;
      shows = c.in_ok-ready.ensures.version (omega (arith, c.put_past.ensures.crash.clean));
    })

pub returns-clause-wrote : goal.returns-clause-wrote
returns-clause-wrote g c clean =
    on_then c.put_past.result _ _ (c.put_past.ensures.wrote clean)
    (commits_after g.S.Store (past_texts c.args.kept.now c.args.rows.now) c.args.conn.now c.ready.new.conn
    c.put_past.new.conn (c.ready.ensures.kept (omega (arith, c.put_past.ensures.crash.clean))))

pub returns-in_err-ready-clause-told : goal.returns-in_err-ready-clause-told
returns-in_err-ready-clause-told g c clean =
    err_handed c.from_residual.result c.in_err-ready.field-0.0 _ c.from_residual.ensures.1
    (inl (refl, c.in_err-ready.ensures.unready clean))

pub returns-clause-told : goal.returns-clause-told
returns-clause-told g c clean =
    told_after g.S.Store (past_texts c.args.kept.now c.args.rows.now) c.args.conn.now c.ready.new.conn
    c.put_past.new.conn (c.ready.ensures.kept (omega (arith, c.put_past.ensures.crash.clean)))
    c.ready.ensures.survives c.put_past.result _ _ _ (c.put_past.ensures.told clean) c.put_past.ensures.named

pub returns-in_err-ready-clause-refused : goal.returns-in_err-ready-clause-refused
returns-in_err-ready-clause-refused g c clean = on_err c.from_residual.result _ (c.in_err-ready.ensures.kept clean)

pub returns-clause-refused : goal.returns-clause-refused
returns-clause-refused g c clean =
    let mid = state g.S.Store c.ready.new.conn in
    let early : HasCleanDisk mid = omega (arith, c.put_past.ensures.crash.clean) in
    on_else c.put_past.result _ _ (c.put_past.ensures.refused clean)
    (kept_then (state g.S.Store c.args.conn.now) mid (state g.S.Store c.put_past.new.conn)
    (c.ready.ensures.kept early))

pub returns-in_err-ready-clause-spares : goal.returns-in_err-ready-clause-spares
returns-in_err-ready-clause-spares g c =
    survives_weaker (state g.S.Store c.args.conn.now) (state g.S.Store c.ready.new.conn) (λ _. ⊥) _
    (λ _ db none. absurd none) c.ready.ensures.survives

pub returns-clause-spares : goal.returns-clause-spares
returns-clause-spares g c =
    spared_after g.S.Store c.args.conn.now c.ready.new.conn c.put_past.new.conn _ c.in_ok-ready.ensures.version
    c.ready.ensures.survives c.put_past.ensures.crash

pub returns-in_err-ready-clause-leaves : goal.returns-in_err-ready-clause-leaves
returns-in_err-ready-clause-leaves g c =
    survives_weaker (state g.S.Store c.args.conn.now) (state g.S.Store c.ready.new.conn) (λ _. ⊥) _
    (λ _ db none. absurd none) c.ready.ensures.survives

pub returns-clause-leaves : goal.returns-clause-leaves
returns-clause-leaves g c =
    leaves_behind g.S.Store (past_texts c.args.kept.now c.args.rows.now) c.args.conn.now c.ready.new.conn c.put_past.new.conn c.ready.ensures.kept
    c.ready.ensures.survives c.put_past.ensures.leaves
