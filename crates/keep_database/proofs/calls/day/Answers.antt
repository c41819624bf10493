use Rattle.std.proofs.Common.{sym, subst, arith, Option}
use Rattle.sqlite.specs.Effect.{Database}
use Rattle.sqlite.specs.Held.{state}
use Rattle.sqlite.specs.State.{HasCleanDisk}
use Rattle.keep_office.specs.declared.kept.DayRecord.{DayRecord}
use Rattle.keep_office.specs.Office.{record_of}
use Rattle.keep_tables.specs.Stands.{HasOffice}
use Rattle.keep_tables.proofs.PutLaws.{survives_both}
use Rattle.keep_tables.proofs.StepLaws.{kept_then}
use Rattle.keep_writes.specs.Causes.{WasRefusedIn}
use Rattle.keep_database.proofs.GiveLaws.{refused_so, gives_weaker}
use Rattle.keep_database.proofs.CauseSteps.{failure_is, failure_after, wants_handed, wants_after}
use Rattle.keep_database.proofs.LookLaws.{some_then, sealed_before}
use Rattle.keep_database.proofs.StandLaws.{always}
use Rattle.keep_database.specs.Exact.{IsDayIn}
use Rattle.keep_database.proofs.ShowLaws.{ok_then, both_before}
use Rattle.keep_database.proofs.calls.day.Goals as goal

pub returns-in_err-ready-clause-gives : goal.returns-in_err-ready-clause-gives
returns-in_err-ready-clause-gives g c clean o stands =
    refused_so (WasRefusedIn g.S.Store c.args.conn.now c.ready.new.conn) (λ (x : Option DayRecord). x) c.from_residual.result c.in_err-ready.field-0.0
    (record_of o c.args.day) c.from_residual.ensures.1
    (λ is. failure_is g.S.Store c.args.conn.now c.ready.new.conn _ (c.in_err-ready.ensures.why clean o stands) is)

pub returns-clause-kept : goal.returns-clause-kept
returns-clause-kept g c clean =
    let mid = state g.S.Store c.ready.new.conn in
    let early : HasCleanDisk mid = omega (arith, c.day.ensures.survives.clean) in
    kept_then (state g.S.Store c.args.conn.now) mid (state g.S.Store c.day.new.conn) (c.ready.ensures.kept early)
    (c.day.ensures.kept clean)

pub returns-clause-gives : goal.returns-clause-gives
returns-clause-gives g c clean o stands =
    let early : HasCleanDisk (state g.S.Store c.ready.new.conn) = omega (arith, c.day.ensures.survives.clean) in
    let there = c.in_ok-ready.ensures.stands early o stands in
    gives_weaker (WasRefusedIn g.S.Store c.ready.new.conn c.day.new.conn)
    (WasRefusedIn g.S.Store c.args.conn.now c.day.new.conn) (λ (x : Option DayRecord). x) c.day.result (record_of o c.args.day)
    (failure_after g.S.Store c.args.conn.now c.ready.new.conn c.day.new.conn (c.ready.ensures.kept early)
    c.ready.ensures.survives)
    (c.day.ensures.gives clean o
    (subst (λ (db : Database). HasOffice db o) (sym ((c.ready.ensures.kept early).committed there.0)) there.1))

pub returns-clause-survives : goal.returns-clause-survives
returns-clause-survives g c =
    survives_both (state g.S.Store c.args.conn.now) (state g.S.Store c.ready.new.conn) (state g.S.Store c.day.new.conn)
    c.ready.ensures.survives c.day.ensures.survives

pub returns-clause-sealed : goal.returns-clause-sealed
returns-clause-sealed g c clean =
    some_then c.day.result _ _ (c.day.ensures.sealed clean)
    (sealed_before g.S.Store c.args.conn.now c.ready.new.conn
    (c.ready.ensures.kept (omega (arith, c.day.ensures.survives.clean))) c.args.day)

pub returns-clause-version : goal.returns-clause-version
returns-clause-version g c clean =
    always c.day.result _
    (record {
      now = c.ready.new.conn;
      shows = c.in_ok-ready.ensures.version (omega (arith, c.day.ensures.survives.clean));
    })

pub returns-in_err-ready-clause-memory : goal.returns-in_err-ready-clause-memory
returns-in_err-ready-clause-memory g c clean o stands none =
    wants_handed g.S.Store c.args.conn.now c.ready.new.conn _ c.from_residual.result c.in_err-ready.field-0.0
    c.from_residual.ensures.1 (c.in_err-ready.ensures.why clean o stands) none

pub returns-clause-memory : goal.returns-clause-memory
returns-clause-memory g c clean o stands none =
    let early : HasCleanDisk (state g.S.Store c.ready.new.conn) = omega (arith, c.day.ensures.survives.clean) in
    let there = c.in_ok-ready.ensures.stands early o stands in
    wants_after g.S.Store c.args.conn.now c.ready.new.conn c.day.new.conn (c.ready.ensures.kept early)
    c.ready.ensures.survives _
    (c.day.ensures.memory clean o
    (subst (λ (db : Database). HasOffice db o) (sym ((c.ready.ensures.kept early).committed there.0)) there.1) none)

pub returns-clause-shows : goal.returns-clause-shows
returns-clause-shows g c clean =
    ok_then c.day.result _ _ (c.day.ensures.shows clean)
    (λ kept h. both_before g.S.Store c.args.conn.now c.ready.new.conn
    (c.ready.ensures.kept (omega (arith, c.day.ensures.survives.clean))) _ _ _ _ (λ l m. IsDayIn c.args.day l m kept) h)
