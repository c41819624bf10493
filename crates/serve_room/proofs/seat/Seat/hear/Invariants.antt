use Rattle.std.proofs.Common.{◌≡◌, ◌≤◌, true, vec_len}
use Rattle.serve_room.proofs.seat.Seat.hear.Given as goal

-- what is held is no more than a head may have, if it was no more before; it was accepted when it was, and stays called
abbrev pub invariant-loop : goal.invariant-loop
invariant-loop l =
    (vec_len l.initial.self.held ≤ 8192 → vec_len l.self.held ≤ 8192) × (l.self.since ≡ l.initial.self.since)
    × (l.initial.self.called ≡ true → l.self.called ≡ true)
