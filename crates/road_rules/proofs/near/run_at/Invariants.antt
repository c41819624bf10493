use Rattle.std.proofs.Common.{◌≡◌, ℕ, ◌<◌, get_or, true}
use Rattle.road_time.specs.declared.road.Report.{Report}
use Rattle.road_time.specs.Tuples.{same_place, place_of}
use Rattle.road_rules.proofs.near.run_at.Given as goal

abbrev pub invariant-loop-i : goal.invariant-loop-i
invariant-loop-i l = (k : ℕ) (d : Report) → k < l.i → same_place (place_of (get_or l.trail k d)) l.place ≡ true
