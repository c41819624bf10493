use Rattle.std.proofs.Common.{◌≡◌, ◌≤◌, ◌*◌, take, sum}
use Rattle.road_rules.proofs.cars.mean12.Given as goal

abbrev pub invariant-loop-speed : goal.invariant-loop-speed
invariant-loop-speed l = record {
  total : l.total ≡ sum (take l.speed-index l.speeds);
  small : l.total ≤ 255 * l.speed-index;
}
