use Rattle.std.proofs.Common.{◌≡◌, ◌≤◌}
use Rattle.serve_room.proofs.draining.Drain.hear.Given as goal

-- no more may be dropped than before, and it came back when it did
abbrev pub invariant-loop : goal.invariant-loop
invariant-loop l = (l.self.room ≤ l.initial.self.room) × (l.self.since ≡ l.initial.self.since)
