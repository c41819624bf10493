use Rattle.std.proofs.Common.{◌+◌, ◌*◌, vec_len}
use Rattle.serve_loops.proofs.running.+acceptors.Given as goal

-- the acceptors that are left
abbrev pub decreases-run_all : goal.decreases-run_all
decreases-run_all g l = 3 * vec_len l.acceptors

abbrev pub decreases-run_beside : goal.decreases-run_beside
decreases-run_beside g l = 3 * vec_len l.acceptors + 2

abbrev pub decreases-run_beside-join+arg3 : goal.decreases-run_beside-join+arg3
decreases-run_beside-join+arg3 g l = 3 * vec_len l.acceptors + 1
