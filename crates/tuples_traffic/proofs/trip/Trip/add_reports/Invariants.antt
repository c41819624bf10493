use Rattle.std.proofs.Common.{◌≡◌, ◌++◌}
use Rattle.tuples_traffic.specs.Reports.{reports_before}
use Rattle.tuples_traffic.specs.Trips.{trip_report}
use Rattle.tuples_traffic.proofs.trip.Trip.add_reports.Given as goal

abbrev pub invariant-loop-k : goal.invariant-loop-k
invariant-loop-k l = l.tuples.items ≡ l.fn.tuples.items ++ reports_before l.fn.end (trip_report l.fn.self) l.k
