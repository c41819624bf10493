use Rattle.std.proofs.Common.{◌≡◌, ◌++◌}
use Rattle.tuples_traffic.specs.Reports.{reports_before}
use Rattle.tuples_traffic.specs.Crashes.{crash_report}
use Rattle.tuples_traffic.proofs.crash.Crash.add_vehicle.Given as goal

abbrev pub invariant-loop-k : goal.invariant-loop-k
invariant-loop-k l =
    l.tuples.items ≡ l.fn.tuples.items ++ reports_before l.fn.end (crash_report l.fn.self l.fn.vid l.fn.start) l.k
