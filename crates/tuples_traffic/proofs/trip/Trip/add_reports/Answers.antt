use Rattle.std.proofs.Common.{◌++◌, [], ◌∷◌, cond, nat_lt, ap, ◌∙◌}
use Rattle.road_time.specs.declared.road.Tuple.TheVariants.{Report as ReportTuple}
use Rattle.road_time.specs.declared.road.Report.{Report}
use Rattle.tuples_traffic.specs.Trips.{trip_report}
use Rattle.tuples_traffic.proofs.StepLaws.{reports_more, added}
use Rattle.tuples_traffic.proofs.trip.Trip.add_reports.Goals as goal

pub loop-k-preserved : goal.loop-k-preserved
loop-k-preserved c =
    let now = c.loop-k.tuples.items in
    added now c.args.tuples.now.items _ _ _ c.loop-k.invariant
    (reports_more c.args.end (trip_report c.args.self.now) c.loop-k.k) _
    (c.in_ok-add_report.ensures
    ∙ ap (λ (r : Report). now ++ cond (nat_lt r.time c.args.end) (ReportTuple r ∷ []) []) c.report.ensures)
