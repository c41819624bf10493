use Rattle.std.proofs.Common.{◌≡◌, ℕ, length, take}
use Rattle.ways_audit.specs.Own.{HasPlaces, places_from}
use Rattle.ways_audit.proofs.splitting.put_all.Given as goal

abbrev pub invariant-loop-at : goal.invariant-loop-at
invariant-loop-at l = record {
  len : length l.lists ≡ length l.fn.lists;
  places : (s : ℕ) → HasPlaces l.lists s (places_from s (length l.fn.lists) 0 (take l.at l.tuples));
}
