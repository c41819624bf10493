use Rattle.std.proofs.Common.{◌≡◌, ◌≤◌, ℕ, ap, ◌∙◌}
use Rattle.road_time.specs.Lav.{flow_at as defined_flow, lav_of}
use Rattle.road_time.specs.Tuples.{reports}
use Rattle.road_time.specs.Tolls.{notes_of}
use Rattle.road_time.proofs.PrefixLaws.{five_same}
use Rattle.road_rules.specs.declared.flows.Flow.{Flow}
use Rattle.road_rules.specs.Flows.{shown_flow}
use Rattle.road_time.proofs.MeanLaws.{all_five}
use Rattle.road_rules.proofs.MeanLaws.{flow_few}
use Rattle.road_rules.proofs.average.average_on.Goals as goal

pub mean_average-requires-clause-cars : goal.mean_average-requires-clause-cars
mean_average-requires-clause-cars c =
    let day = c.args.gathered.now.tuples.now in
    let few =
    λ (f : Flow) (i : ℕ) (e : shown_flow f ≡ defined_flow (notes_of (reports day)) c.args.stretch i). flow_few day
    c.requires.fit f c.args.stretch i e in
    all_five (λ (f : Flow). f.cars ≤ 500000) c.in_ok-a.a c.in_ok-b.b c.in_ok-c.c c.in_ok-d.d c.in_ok-e.e
    (few c.in_ok-a.a c.saturating_sub.result c.in_ok-a.ensures.flow)
    (few c.in_ok-b.b c.saturating_sub-2.result c.in_ok-b.ensures.flow)
    (few c.in_ok-c.c c.saturating_sub-3.result c.in_ok-c.ensures.flow)
    (few c.in_ok-d.d c.saturating_sub-4.result c.in_ok-d.ensures.flow)
    (few c.in_ok-e.e c.saturating_sub-5.result c.in_ok-e.ensures.flow)

pub returns-clause-few : goal.returns-clause-few
returns-clause-few c =
    flow_few c.args.gathered.now.tuples.now c.requires.fit c.in_ok-e.e c.args.stretch c.saturating_sub-5.result
    c.in_ok-e.ensures.flow

pub returns-clause-cars : goal.returns-clause-cars
returns-clause-cars c =
    let flow = defined_flow (notes_of (reports c.args.gathered.now.tuples.now)) c.args.stretch in
    ap (λ f. f.cars) (c.in_ok-e.ensures.flow ∙ ap flow c.saturating_sub-5.ensures)

pub returns-clause-lav : goal.returns-clause-lav
returns-clause-lav c =
    let flow = defined_flow (notes_of (reports c.args.gathered.now.tuples.now)) c.args.stretch in
    c.mean_average.ensures.exact ∙ ap lav_of (five_same
    (c.in_ok-a.ensures.flow ∙ ap flow c.saturating_sub.ensures)
    (c.in_ok-b.ensures.flow ∙ ap flow c.saturating_sub-2.ensures)
    (c.in_ok-c.ensures.flow ∙ ap flow c.saturating_sub-3.ensures)
    (c.in_ok-d.ensures.flow ∙ ap flow c.saturating_sub-4.ensures)
    (c.in_ok-e.ensures.flow ∙ ap flow c.saturating_sub-5.ensures))
