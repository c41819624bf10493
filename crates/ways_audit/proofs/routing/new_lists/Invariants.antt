use Rattle.std.proofs.Common.{◌≡◌, ℕ, [], length}
use Rattle.ways_audit.specs.Routing.{HasEvents}
use Rattle.ways_audit.proofs.routing.new_lists.Given as goal

abbrev pub invariant-loop : goal.invariant-loop
invariant-loop l = record {
  len : length l.lists.items ≡ l.counter;
  empty : (w : ℕ) → HasEvents l.lists.items w [];
}
