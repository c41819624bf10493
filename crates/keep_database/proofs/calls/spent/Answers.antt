use Rattle.std.proofs.Common.{sym, subst, arith, ℕ}
use Rattle.sqlite.specs.Effect.{Database}
use Rattle.sqlite.specs.Held.{state}
use Rattle.sqlite.specs.State.{HasCleanDisk}
use Rattle.road_time.specs.History.{paid}
use Rattle.keep_tables.specs.Stands.{HasOffice}
use Rattle.keep_tables.proofs.PutLaws.{survives_both}
use Rattle.keep_tables.proofs.StepLaws.{kept_then}
use Rattle.keep_writes.specs.Causes.{WasRefusedIn}
use Rattle.keep_database.proofs.GiveLaws.{refused_so, gives_weaker}
use Rattle.keep_database.proofs.CauseSteps.{failure_is, failure_after, memory_handed, memory_after}
use Rattle.keep_database.proofs.StandLaws.{always}
use Rattle.keep_tables.specs.Amounts.{HasAmount}
use Rattle.keep_database.proofs.ShowLaws.{ok_then, such_before}
use Rattle.keep_database.proofs.calls.spent.Goals as goal

pub returns-in_err-ready-clause-gives : goal.returns-in_err-ready-clause-gives
returns-in_err-ready-clause-gives g c clean o stands =
    refused_so (WasRefusedIn g.S.Store c.args.conn.now c.ready.new.conn) (λ (x : ℕ). x) c.from_residual.result c.in_err-ready.field-0.0
    (paid o.rows c.args.day c.args.vid c.args.xway) c.from_residual.ensures.1
    (λ is. failure_is g.S.Store c.args.conn.now c.ready.new.conn _ (c.in_err-ready.ensures.why clean o stands) is)

pub returns-clause-kept : goal.returns-clause-kept
returns-clause-kept g c clean =
    let mid = state g.S.Store c.ready.new.conn in
    let early : HasCleanDisk mid = omega (arith, c.spent.ensures.survives.clean) in
    kept_then (state g.S.Store c.args.conn.now) mid (state g.S.Store c.spent.new.conn) (c.ready.ensures.kept early)
    (c.spent.ensures.kept clean)

pub returns-clause-gives : goal.returns-clause-gives
returns-clause-gives g c clean o stands =
    let early : HasCleanDisk (state g.S.Store c.ready.new.conn) = omega (arith, c.spent.ensures.survives.clean) in
    let there = c.in_ok-ready.ensures.stands early o stands in
    gives_weaker (WasRefusedIn g.S.Store c.ready.new.conn c.spent.new.conn)
    (WasRefusedIn g.S.Store c.args.conn.now c.spent.new.conn) (λ (x : ℕ). x) c.spent.result (paid o.rows c.args.day c.args.vid c.args.xway)
    (failure_after g.S.Store c.args.conn.now c.ready.new.conn c.spent.new.conn (c.ready.ensures.kept early)
    c.ready.ensures.survives)
    (c.spent.ensures.gives clean o
    (subst (λ (db : Database). HasOffice db o) (sym ((c.ready.ensures.kept early).committed there.0)) there.1))

pub returns-clause-survives : goal.returns-clause-survives
returns-clause-survives g c =
    survives_both (state g.S.Store c.args.conn.now) (state g.S.Store c.ready.new.conn)
    (state g.S.Store c.spent.new.conn) c.ready.ensures.survives c.spent.ensures.survives

pub returns-in_err-ready-clause-memory : goal.returns-in_err-ready-clause-memory
returns-in_err-ready-clause-memory g c clean o stands none =
    memory_handed g.S.Store c.args.conn.now c.ready.new.conn c.from_residual.result c.in_err-ready.field-0.0
    c.from_residual.ensures.1 (c.in_err-ready.ensures.why clean o stands) none

pub returns-clause-memory : goal.returns-clause-memory
returns-clause-memory g c clean o stands none =
    memory_after g.S.Store c.args.conn.now c.ready.new.conn c.spent.new.conn
    (c.ready.ensures.kept (omega (arith, c.spent.ensures.survives.clean))) c.ready.ensures.survives
    (c.spent.ensures.memory clean none)

pub returns-clause-version : goal.returns-clause-version
returns-clause-version g c clean =
    always c.spent.result _
    (record {
      now = c.ready.new.conn;
      shows = c.in_ok-ready.ensures.version (omega (arith, c.spent.ensures.survives.clean));
    })

pub returns-clause-shows : goal.returns-clause-shows
returns-clause-shows g c clean =
    ok_then c.spent.result _ _ (c.spent.ensures.shows clean)
    (λ tolls h. such_before g.S.Store c.args.conn.now c.ready.new.conn
    (c.ready.ensures.kept (omega (arith, c.spent.ensures.survives.clean))) _ _ (λ l. HasAmount l tolls) h)
