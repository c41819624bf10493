use Rattle.std.proofs.Common.{◌≤◌, ℕ}
use Rattle.road_rules.specs.declared.flows.Flow.{Flow}
use Rattle.road_time.proofs.MeanLaws.{all_five}
use Rattle.road_rules.proofs.MeanLaws.{flow_few}
use Rattle.road_rules.proofs.flows.plain_lav.Goals as goal

pub mean_average-requires-clause-cars : goal.mean_average-requires-clause-cars
mean_average-requires-clause-cars c =
    let few = λ (f : Flow) (m : ℕ). flow_few c.args.tuples.now c.requires f c.args.stretch m in
    all_five (λ (f : Flow). f.cars ≤ 500000) c.in_ok-a.a c.in_ok-b.b c.in_ok-c.c c.in_ok-d.d c.in_ok-e.e
    (few _ _ c.in_ok-a.ensures.flow) (few _ _ c.in_ok-b.ensures.flow) (few _ _ c.in_ok-c.ensures.flow)
    (few _ _ c.in_ok-d.ensures.flow) (few _ _ c.in_ok-e.ensures.flow)
