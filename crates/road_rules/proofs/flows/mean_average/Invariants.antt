use Rattle.std.proofs.Common.{◌≡◌, ◌≤◌, ◌*◌, ◌^◌, take, length, map}
use Rattle.std.specs.List.{filter, fold}
use Rattle.road_time.specs.Lav.{has_cars, plus_average}
use Rattle.road_rules.specs.Flows.{shown_flow}
use Rattle.road_rules.proofs.flows.mean_average.Given as goal

abbrev pub invariant-loop-flow : goal.invariant-loop-flow
invariant-loop-flow l = record {
  sum : fold plus_average (record { num = 0; den = 1 }) (filter has_cars (map shown_flow (take l.flow-index l.flows)))
      ≡ record { num = l.num; den = l.den };
  busy : length (filter has_cars (map shown_flow (take l.flow-index l.flows))) ≡ l.busy;
  few : l.busy ≤ l.flow-index;
  den_small : l.den ≤ 500000 ^ l.flow-index;
  num_small : l.num ≤ 3060 * l.flow-index * 500000 ^ l.flow-index;
}
