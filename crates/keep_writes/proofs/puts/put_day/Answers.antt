use Rattle.std.proofs.Common.{sym, subst, ◌∙◌, arith, inl, inr}
use Rattle.sqlite.specs.Held.{state}
use Rattle.sqlite.specs.Effect.{Database}
use Rattle.sqlite.specs.State.{HasCleanDisk}
use Rattle.keep_tables.proofs.CrashLaws.{put_survives}
use Rattle.keep_office.specs.Kept.{IsLater, with_day}
use Rattle.keep_tables.specs.Stands.{HasOffice}
use Rattle.keep_writes.specs.Causes.{IsTold}
use Rattle.keep_writes.specs.Writes.{day_texts}
use Rattle.keep_writes.proofs.RunLaws.{commits_after, leaves_after}
use Rattle.keep_writes.proofs.CauseLaws.{cause_of, refused_after, refused_idle}
use Rattle.keep_tables.proofs.StepLaws.{kept_then}
use Rattle.keep_writes.proofs.puts.put_day.Goals as goal

pub returns-in-Err-clause-why : goal.returns-in-Err-clause-why
returns-in-Err-clause-why g c clean =
    let writes = day_texts c.args.kept.now c.args.rows.now in
    cause_of g.S.Store writes c.args.conn.now c.settle.new.conn c.refusal_told.result c.in-Err.error
    c.refusal_told.ensures.fault
    (refused_idle g.S.Store writes c.args.conn.now c.settle.new.conn c.in-Err.error (c.in-Err.ensures.refused clean))

pub returns-in-Ok-clause-open : goal.returns-in-Ok-clause-open
returns-in-Ok-clause-open g c clean = (c.in-Ok.ensures.open clean).1

pub returns-in-Ok-clause-put : goal.returns-in-Ok-clause-put
returns-in-Ok-clause-put g c clean o has fit =
    let mid = state g.S.Store c.settle.new.conn in
    let early : HasCleanDisk mid = omega (arith, c.keep_day.ensures.crash.clean) in
    let before = (c.in-Ok.ensures.open clean).0 in
    let now = c.in_default.ensures.settled early before ∙ (c.settle.ensures.kept early).committed before in
    c.in-Ok.ensures.put clean o (subst (λ (db : Database). HasOffice db o) (sym now) has) fit

pub returns-in-Ok-clause-crash : goal.returns-in-Ok-clause-crash
returns-in-Ok-clause-crash g c =
    put_survives (state g.S.Store c.args.conn.now) (state g.S.Store c.settle.new.conn)
    (state g.S.Store c.keep_day.new.conn) (IsLater c.args.kept.now.day) (with_day c.args.kept.now c.args.rows.now)
    (λ clean here. c.in_default.ensures.settled clean here) c.settle.ensures.kept c.settle.ensures.survives
    c.keep_day.ensures.crash

pub returns-in-Err-keep_day-clause-crash : goal.returns-in-Err-keep_day-clause-crash
returns-in-Err-keep_day-clause-crash g c =
    put_survives (state g.S.Store c.args.conn.now) (state g.S.Store c.settle.new.conn)
    (state g.S.Store c.keep_day.new.conn) (IsLater c.args.kept.now.day) (with_day c.args.kept.now c.args.rows.now)
    (λ clean here. c.in_default.ensures.settled clean here) c.settle.ensures.kept c.settle.ensures.survives
    c.keep_day.ensures.crash

pub returns-in-Err-keep_day-clause-refused : goal.returns-in-Err-keep_day-clause-refused
returns-in-Err-keep_day-clause-refused g c clean =
    kept_then (state g.S.Store c.args.conn.now) (state g.S.Store c.settle.new.conn)
    (state g.S.Store c.keep_day.new.conn) (c.settle.ensures.kept (omega (arith, c.keep_day.ensures.crash.clean)))
    (c.in-Err-keep_day.ensures.refused clean)

pub returns-in-Err-keep_day-clause-why : goal.returns-in-Err-keep_day-clause-why
returns-in-Err-keep_day-clause-why g c clean =
    let mid = state g.S.Store c.settle.new.conn in
    let early : HasCleanDisk mid = omega (arith, c.keep_day.ensures.crash.clean) in
    let calm = c.in_default.ensures.calm early in
    elim (c.in-Err-keep_day.ensures.because clean (c.in_default.ensures.settled early)) [
      | inl inside ↦ absurd (let e = sym calm ∙ inside in cc)
      | inr refused ↦ cause_of g.S.Store (day_texts c.args.kept.now c.args.rows.now)
          c.args.conn.now c.keep_day.new.conn c.refusal_told-in-Err-keep_day.result
          c.in-Err-keep_day.error c.refusal_told-in-Err-keep_day.ensures.fault
          (refused_after g.S.Store c.args.conn.now c.settle.new.conn c.keep_day.new.conn _ (c.settle.ensures.kept early)
          c.settle.ensures.survives refused)
    ]

pub returns-in-Err-clause-told : goal.returns-in-Err-clause-told
returns-in-Err-clause-told g c clean =
    let writes = day_texts c.args.kept.now c.args.rows.now in
    subst (IsTold g.S.Store writes c.args.conn.now c.settle.new.conn) (sym c.refusal_told.ensures.says)
    (refused_idle g.S.Store writes c.args.conn.now c.settle.new.conn c.in-Err.error (c.in-Err.ensures.refused clean))

pub returns-in-Err-keep_day-clause-told : goal.returns-in-Err-keep_day-clause-told
returns-in-Err-keep_day-clause-told g c clean =
    let mid = state g.S.Store c.settle.new.conn in
    let early : HasCleanDisk mid = omega (arith, c.keep_day.ensures.crash.clean) in
    let calm = c.in_default.ensures.calm early in
    elim (c.in-Err-keep_day.ensures.because clean (c.in_default.ensures.settled early)) [
      | inl inside ↦ absurd (let e = sym calm ∙ inside in cc)
      | inr refused ↦ subst
          (IsTold g.S.Store (day_texts c.args.kept.now c.args.rows.now) c.args.conn.now c.keep_day.new.conn)
          (sym c.refusal_told-in-Err-keep_day.ensures.says)
          (refused_after g.S.Store c.args.conn.now c.settle.new.conn c.keep_day.new.conn _ (c.settle.ensures.kept early)
          c.settle.ensures.survives refused)
    ]

pub returns-in-Ok-clause-wrote : goal.returns-in-Ok-clause-wrote
returns-in-Ok-clause-wrote g c clean =
    let mid = state g.S.Store c.settle.new.conn in
    let early : HasCleanDisk mid = omega (arith, c.keep_day.ensures.crash.clean) in
    commits_after g.S.Store (day_texts c.args.kept.now c.args.rows.now) c.args.conn.now c.settle.new.conn c.keep_day.new.conn (c.settle.ensures.kept early)
    (c.in-Ok.ensures.wrote clean (c.in_default.ensures.settled early))

pub returns-in-Ok-clause-leaves : goal.returns-in-Ok-clause-leaves
returns-in-Ok-clause-leaves g c =
    leaves_after g.S.Store (day_texts c.args.kept.now c.args.rows.now) c.args.conn.now c.settle.new.conn c.keep_day.new.conn
    (λ clean here. c.in_default.ensures.settled clean here) c.settle.ensures.kept c.settle.ensures.survives
    c.keep_day.ensures.leaves

pub returns-in-Err-keep_day-clause-leaves : goal.returns-in-Err-keep_day-clause-leaves
returns-in-Err-keep_day-clause-leaves g c =
    leaves_after g.S.Store (day_texts c.args.kept.now c.args.rows.now) c.args.conn.now c.settle.new.conn c.keep_day.new.conn
    (λ clean here. c.in_default.ensures.settled clean here) c.settle.ensures.kept c.settle.ensures.survives
    c.keep_day.ensures.leaves
