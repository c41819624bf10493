use Rattle.std.proofs.Common.{◌≡◌, ◌++◌, ap, sym, ◌∙◌}
use Rattle.rand_pcg.specs.Lcg.{Lcg}
use Rattle.tuples_traffic.specs.declared.trip.Trip.{Trip}
use Rattle.tuples_traffic.specs.Plans.{end_of}
use Rattle.tuples_traffic.specs.Trips.{drawn_trip, trip_tuples}
use Rattle.tuples_traffic.specs.Traffic.{vid_of_trip, trip_of}
use Rattle.tuples_traffic.proofs.StepLaws.{no_trip, none_added, trip_next, trips_more, added}
use Rattle.tuples_traffic.proofs.traffic.add_trips.Goals as goal

pub loop-number-init : goal.loop-number-init
loop-number-init c = record {
  tuples = none_added c.args.tuples.now.items
      ∙ ap (λ ts. c.args.tuples.now.items ++ ts) (sym (no_trip c.args.plan.now));
  drawn = c.requires.first;
}

pub loop-number-preserved : goal.loop-number-preserved
loop-number-preserved c =
    let plan = c.args.plan.now in
    let n = c.loop-number.number in
    let now = c.loop-number.tuples.items in
    let next = ap (drawn_trip plan (vid_of_trip plan n)) c.loop-number.invariant.drawn ∙ trip_next plan n in
    let trip : c.draw-trip.result ≡ trip_of plan n = c.draw-trip.ensures.drawn.0 ∙ ap (λ (p : Trip × Lcg). p.0) next in
    record {
      tuples = added now c.args.tuples.now.items _ _ _ c.loop-number.invariant.tuples (trips_more plan n) _
          (c.in_ok-add.ensures ∙ ap (λ (r : Trip). now ++ trip_tuples (end_of plan) r) trip);
      drawn = c.draw-trip.ensures.drawn.1 ∙ ap (λ (p : Trip × Lcg). p.1) next;
    }
