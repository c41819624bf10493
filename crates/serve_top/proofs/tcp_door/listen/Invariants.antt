use Rattle.std.proofs.Common.{◌≡◌, ◌+◌, length}
use Rattle.std.specs.Prelude.{All}
use Rattle.serve_top.specs.TcpDoors.{accepted_by, faults_of, HearsAt}
use Rattle.serve_top.proofs.tcp_door.listen.Given as goal

abbrev pub invariant-loop : goal.invariant-loop
invariant-loop g l = record {
  count : length l.ears.items + 1 ≡ l.counter;
  fresh : All (λ ear. (accepted_by ear ≡ 0) × (faults_of ear ≡ 0)) l.ears.items;
  hears : All (λ ear. HearsAt ear l.port) l.ears.items;
}
