use Rattle.std.proofs.Common.{◌≡◌, ℕ, length, take}
use Rattle.ways_expressway.specs.Events.{events_for}
use Rattle.ways_audit.specs.Routing.{HasEvents}
use Rattle.ways_audit.proofs.routing.put_all.Given as goal

abbrev pub invariant-loop-at : goal.invariant-loop-at
invariant-loop-at l = record {
  len : length l.lists ≡ l.width;
  events : (w : ℕ) → HasEvents l.lists w (events_for (take l.at l.tuples) w l.width);
}
