use Rattle.std.proofs.Common.{◌≡◌, ◌+◌, vec_len, All}
use Rattle.serve_loops.specs.MemListeners.{accepted_by}
use Rattle.tests_server.proofs.tests.acceptors.acceptors_of.Given as goal

-- an acceptor for each reader that was taken, which accepted nothing
abbrev pub invariant-loop-reader : goal.invariant-loop-reader
invariant-loop-reader g l =
    (vec_len l.acceptors + vec_len l.readers ≡ vec_len l.initial.readers)
    × All (λ acceptor. accepted_by acceptor.listener ≡ 0) l.acceptors.items

-- the readers that are left
abbrev pub decreases-loop-reader : goal.decreases-loop-reader
decreases-loop-reader g l = vec_len l.readers
