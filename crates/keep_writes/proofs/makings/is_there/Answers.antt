use Rattle.std.proofs.Common.{[]}
use Rattle.sqlite.specs.Held.{state}
use Rattle.keep_writes.proofs.GrowLaws.{missed_says, not_run_keeps}
use Rattle.std.proofs.Common.{sym, subst}
use Rattle.sqlite.specs.State.{IsNotRun}
use Rattle.keep_writes.proofs.CauseLaws.{err_then}
use Rattle.keep_writes.proofs.makings.is_there.Goals as goal

pub returns-clause-says : goal.returns-clause-says
returns-clause-says g c clean =
    (missed_says (state g.S.Store c.args.conn.now) (state g.S.Store c.prepare.new.self) c.args.sql.now c.in-Err.error
    c.misses.result c.misses.ensures.missed (c.in-Err.ensures.err clean)).0

pub returns-clause-same : goal.returns-clause-same
returns-clause-same g c clean =
    (missed_says (state g.S.Store c.args.conn.now) (state g.S.Store c.prepare.new.self) c.args.sql.now c.in-Err.error
    c.misses.result c.misses.ensures.missed (c.in-Err.ensures.err clean)).1

pub returns-clause-kept : goal.returns-clause-kept
returns-clause-kept g c clean =
    not_run_keeps (state g.S.Store c.args.conn.now) (state g.S.Store c.prepare.new.self) c.args.sql.now []
    c.in-Err.error (c.in-Err.ensures.err clean [])

pub returns-clause-refused : goal.returns-clause-refused
returns-clause-refused g c clean =
    err_then c.misses.result _ _ c.misses.ensures.own
    (λ e h. (
      subst (λ f. IsNotRun (state g.S.Store c.args.conn.now) (state g.S.Store c.prepare.new.self) c.args.sql.now [] f)
          (sym h.0) (c.in-Err.ensures.err clean []),
      h.1,
    ))
