use Rattle.std.proofs.Common.{◌++◌, ap, sym, ◌∙◌}
use Rattle.tuples_traffic.specs.Traffic.{trips, crash_traffic, trip_traffic, traffic}
use Rattle.tuples_traffic.proofs.StepLaws.{crash_first, trip_first}
use Rattle.tuples_traffic.proofs.traffic.tuples_of.Goals as goal

pub add_crashes-requires-clause-first : goal.add_crashes-requires-clause-first
add_crashes-requires-clause-first c = c.seed-rng.ensures ∙ sym (crash_first c.args.plan.now)

pub add_trips-requires-clause-first : goal.add_trips-requires-clause-first
add_trips-requires-clause-first c = c.in_ok-add_crashes.ensures.drawn ∙ sym (trip_first c.args.plan.now)

pub returns : goal.returns
unfolding traffic
returns c =
    let plan = c.args.plan.now in
    c.in_ok-add_trips.ensures
    ∙ ap (λ ts. ts ++ trip_traffic plan (trips plan))
    (c.in_ok-add_crashes.ensures.tuples
    ∙ ap (λ ts. ts ++ crash_traffic plan plan.crashes) c.new-tuples.ensures.items)
