use Rattle.std.proofs.Common.{◌≡◌, ℕ, [], length}
use Rattle.ways_audit.specs.Own.{HasPlaces}
use Rattle.ways_audit.proofs.splitting.new_lists.Given as goal

abbrev pub invariant-loop : goal.invariant-loop
invariant-loop l = record {
  len : length l.lists.items ≡ l.counter;
  empty : (s : ℕ) → HasPlaces l.lists.items s [];
}
