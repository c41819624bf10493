use Rattle.std.proofs.Common.{vec_len}
use Rattle.tests_desk.proofs.tests.desk.sharing.seats_of.Given as goal

abbrev pub invariant-loop-reader : goal.invariant-loop-reader
invariant-loop-reader g l = Unit {0}

-- the readers that are left
abbrev pub decreases-loop-reader : goal.decreases-loop-reader
decreases-loop-reader g l = vec_len l.readers
