use Rattle.sqlite.specs.Held.{state}
use Rattle.keep_writes.proofs.GrowLaws.{asked_same, asked_inside}
use Rattle.keep_writes.proofs.CauseLaws.{err_then}
use Rattle.keep_writes.proofs.UnmadeLaws.{in_time}
use Rattle.keep_writes.proofs.seals.all_days.Goals as goal

pub returns-clause-same : goal.returns-clause-same
returns-clause-same g c clean =
    asked_same (λ rows. rows.items) (state g.S.Store c.args.tx.now.conn.now)
    (state g.S.Store c.query_all.new.self.conn.now) c.query_all.result (c.query_all.ensures.ok clean)

pub returns-clause-kept : goal.returns-clause-kept
returns-clause-kept g c clean =
    asked_inside (λ rows. rows.items) (state g.S.Store c.args.tx.now.conn.now)
    (state g.S.Store c.query_all.new.self.conn.now) c.query_all.result (c.query_all.ensures.ok clean)
    (c.query_all.ensures.err clean)

pub returns-clause-refused : goal.returns-clause-refused
returns-clause-refused g c clean inside =
    err_then c.query_all.result _ _ (c.query_all.ensures.err clean)
    (λ e h. in_time (state g.S.Store c.args.tx.now.conn.now) (state g.S.Store c.query_all.new.self.conn.now) e inside h)
