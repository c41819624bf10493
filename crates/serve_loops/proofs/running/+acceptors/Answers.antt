use Rattle.std.proofs.Common.{rules}
use Rattle.serve_loops.proofs.AcceptorLaws.{ran_behind}
use Rattle.serve_loops.proofs.running.+acceptors.Goals as goal

pub run_beside-returns-clause-ran : goal.run_beside-returns-clause-ran
run_beside-returns-clause-ran g t c =
    ran_behind g.N.Listener.faults g.N.Listener.accepted g.H.Host.follows _ _ _ _ _ _ _ _ _ _ _ _
    c.put_behind.ensures.acceptors c.put_behind.ensures.drawn c.put_behind.ensures.ends
    c.join-last.ensures.second.0 c.join-last.ensures.first.0

pub run_beside-join-last-requires-after_bounds : goal.run_beside-join-last-requires-after_bounds
run_beside-join-last-requires-after_bounds g t c κs within = search rules depth 60 fits 20000
