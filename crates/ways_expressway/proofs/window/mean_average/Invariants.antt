use Rattle.std.proofs.Common.{◌≡◌, ◌≤◌, ◌*◌, ◌^◌, take, length, map}
use Rattle.std.specs.List.{filter, fold}
use Rattle.road_time.specs.Lav.{has_cars, plus_average}
use Rattle.ways_expressway.specs.Parts.{shown_flow}
use Rattle.ways_expressway.proofs.window.mean_average.Given as goal

abbrev pub invariant-loop-flow : goal.invariant-loop-flow
invariant-loop-flow l = record {
  sum : fold plus_average (record { num = 0; den = 1 }) (filter has_cars (map shown_flow (take l.flow-index l.flows)))
      ≡ record { num = l.num; den = l.den };
  busy : length (filter has_cars (map shown_flow (take l.flow-index l.flows))) ≡ l.busy;
  few : l.busy ≤ l.flow-index;
  den_some : 1 ≤ l.den;
  den_small : l.den ≤ 500000 ^ l.flow-index;
  mean : l.num ≤ 1200 * l.busy * l.den;
}
