use Rattle.std.proofs.Common.{◌≡◌, map, length}
use Rattle.std.specs.Prelude.{vec_len, vec_capacity}
use Rattle.serve_top.proofs.seats.rise.Given as goal

abbrev pub invariant-loop-acceptor : goal.invariant-loop-acceptor
invariant-loop-acceptor g l = record {
  risen : l.ears.items ≡ map (λ acceptor. acceptor.listener) l.yielded;
  count : vec_len l.ears ≡ length l.yielded;
  room : vec_capacity l.ears ≡ vec_capacity l.fn.room;
}
