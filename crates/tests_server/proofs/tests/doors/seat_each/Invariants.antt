use Rattle.std.proofs.Common.{◌≡◌, ◌+◌, map, length}
use Rattle.std.specs.Prelude.{vec_len, vec_capacity}
use Rattle.tests_server.proofs.tests.doors.seat_each.Given as goal

abbrev pub invariant-loop-listener : goal.invariant-loop-listener
invariant-loop-listener g l = record {
  seated : map (λ acceptor. acceptor.listener) l.acceptors.items ≡ l.yielded;
  count : vec_len l.acceptors ≡ length l.yielded;
  room : vec_capacity l.acceptors ≡ vec_capacity l.fn.room;
  left : vec_len l.readers + length l.yielded ≡ length l.fn.ears;
}
