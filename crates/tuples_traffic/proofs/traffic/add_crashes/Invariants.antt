use Rattle.std.proofs.Common.{◌≡◌, ◌++◌}
use Rattle.tuples_traffic.specs.Traffic.{before_crash, crash_traffic}
use Rattle.tuples_traffic.proofs.traffic.add_crashes.Given as goal

abbrev pub invariant-loop-number : goal.invariant-loop-number
invariant-loop-number l = record {
  tuples : l.tuples.items ≡ l.fn.tuples.items ++ crash_traffic l.fn.plan l.number;
  drawn : l.rng ≡ before_crash l.fn.plan l.number;
}
