use Rattle.std.proofs.Common.{ap, ◌∙◌, arith}
use Rattle.std.specs.Prelude.{sum_by}
use Rattle.serve_loops.specs.MemListeners.{accepted_by, faults_of}
use Rattle.tests_server.proofs.EmptyLaws.{fresh_sum}
use Rattle.tests_server.proofs.tests.doors.sat.Goals as goal

-- the ears that rose are those that were opened
pub close-requires : goal.close-requires
close-requires c =
    let sum = ap (sum_by (λ ear. accepted_by ear)) c.in_ok-ears.ensures in
    let none = sum ∙ fresh_sum accepted_by faults_of c.in-Ok.ears c.in-Ok.ensures.fresh in
    record { room = omega (arith, none, c.open.ensures.accepted, c.requires.few) }
