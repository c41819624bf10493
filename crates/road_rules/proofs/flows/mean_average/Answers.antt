use Rattle.std.proofs.Common.{ℕ, ◌≤◌, ◌<◌, ◌+◌, ◌*◌, ◌^◌, arith, add-one, get_or}
use Rattle.std.proofs.Math.Nat.{pow-suc}
use Rattle.std.proofs.Math.Facts.{Fits-of_lt}
use Rattle.road_time.proofs.MeanLaws.{den_step, den_fits, whole_fits, sum_yes, sum_no, count_yes, count_no}
use Rattle.road_rules.proofs.MeanLaws.{num_step, num_skip, num_fits, whole_small, small_of}
use Rattle.road_rules.specs.Flows.{shown_flow}
use Rattle.road_rules.specs.declared.flows.Flow.{Flow as CodeFlow}
use Rattle.road_rules.proofs.flows.mean_average.Goals as goal
use Rattle.road_rules.proofs.flows.mean_average.Goals.{then-flow-gt0, else-flow-gt0}

abbrev none : CodeFlow
none = record { cars = 0; speeds12 = 0 }

part_of : (a b : ℕ) → a + b < 2 ^ 128 → b < 2 ^ 128
part_of a b h = omega arith

pub loop-flow-preserved : goal.loop-flow-preserved
loop-flow-preserved c =
    let i = c.loop-flow.flow-index in
    let f = get_or c.args.flows.now i none in
    let inv = c.loop-flow.invariant in
    let cars : f.cars ≤ 500000 = c.requires.cars i none c.loop-flow-test.true in
    let speeds : f.speeds12 ≤ 3060 * f.cars = c.requires.speeds i none c.loop-flow-test.true in
    elim c.if-flow-gt0.branch [
      | then-flow-gt0 w ↦ record {
        sum = rw (w.num-is, w.den-is, w.from.ensures, w.from-then-flow-gt0.ensures, w.from-den.ensures)
            (sum_yes shown_flow c.args.flows.now i none c.loop-flow.num c.loop-flow.den c.loop-flow.busy
            c.loop-flow-test.true
            inv.sum inv.busy w.if-flow-gt0.true);
        busy = rw w.busy-is
            (count_yes shown_flow c.args.flows.now i none c.loop-flow.num c.loop-flow.den c.loop-flow.busy
            c.loop-flow-test.true
            inv.sum inv.busy w.if-flow-gt0.true);
        few = omega arith;
        den_small =
            rw (w.den-is, w.from-den.ensures, add-one, pow-suc 500000 i)
            (den_step c.loop-flow.den f.cars (500000 ^ i) inv.den_small cars);
        num_small = rw (w.num-is, w.from.ensures, w.from-then-flow-gt0.ensures, add-one, pow-suc 500000 i)
            (rw add-one at
            (num_step c.loop-flow.num f.speeds12 c.loop-flow.den f.cars i (500000 ^ i) inv.num_small speeds
            inv.den_small cars));
      }
      | else-flow-gt0 w ↦ record {
        sum = rw (w.num-is, w.den-is)
            (sum_no shown_flow c.args.flows.now i none c.loop-flow.num c.loop-flow.den c.loop-flow.busy
            c.loop-flow-test.true
            inv.sum inv.busy w.if-flow-gt0.false);
        busy = rw w.busy-is
            (count_no shown_flow c.args.flows.now i none c.loop-flow.num c.loop-flow.den c.loop-flow.busy
            c.loop-flow-test.true
            inv.sum inv.busy w.if-flow-gt0.false);
        few = omega arith;
        den_small = rw (w.den-is, add-one, pow-suc 500000 i) (omega arith);
        num_small =
            rw (w.num-is, add-one, pow-suc 500000 i)
            (rw add-one at (num_skip c.loop-flow.num i (500000 ^ i) inv.num_small));
      }
    ]

pub overflow_add-num : goal.overflow_add-num
overflow_add-num c =
    let i = c.loop-flow.flow-index in
    let f = get_or c.args.flows.now i none in
    let inv = c.loop-flow.invariant in
    rw (c.from.ensures, c.from-then-flow-gt0.ensures)
    (Fits-of_lt
    (num_fits c.loop-flow.num f.speeds12 c.loop-flow.den f.cars i (omega arith) inv.num_small
    (c.requires.speeds i none c.loop-flow-test.true) inv.den_small (c.requires.cars i none c.loop-flow-test.true)))

pub overflow_mul-num-then-flow-gt0 : goal.overflow_mul-num-then-flow-gt0
overflow_mul-num-then-flow-gt0 c =
    let i = c.loop-flow.flow-index in
    let f = get_or c.args.flows.now i none in
    let inv = c.loop-flow.invariant in
    let sum : c.loop-flow.num * f.cars + f.speeds12 * c.loop-flow.den < 2 ^ 128 =
    num_fits c.loop-flow.num f.speeds12 c.loop-flow.den f.cars i (omega arith) inv.num_small
    (c.requires.speeds i none c.loop-flow-test.true) inv.den_small (c.requires.cars i none c.loop-flow-test.true) in
    let part : f.speeds12 * c.loop-flow.den < 2 ^ 128 =
    part_of (c.loop-flow.num * f.cars) (f.speeds12 * c.loop-flow.den) sum in
    rw c.from-then-flow-gt0.ensures (Fits-of_lt part)

pub overflow_mul-den : goal.overflow_mul-den
overflow_mul-den c =
    let i = c.loop-flow.flow-index in
    rw c.from-den.ensures
    (Fits-of_lt
    (den_fits c.loop-flow.den (get_or c.args.flows.now i none).cars i (omega arith) c.loop-flow.invariant.den_small
    (c.requires.cars i none c.loop-flow-test.true)))

pub overflow_mul-result-else-busy-eq0 : goal.overflow_mul-result-else-busy-eq0
overflow_mul-result-else-busy-eq0 c =
    Fits-of_lt
    (whole_fits c.loop-flow.den c.loop-flow.busy c.loop-flow.flow-index (omega arith) c.loop-flow.invariant.few
    c.loop-flow.invariant.den_small)

pub returns-else-busy-eq0-clause-small : goal.returns-else-busy-eq0-clause-small
returns-else-busy-eq0-clause-small c = λ f e.
    small_of c.loop-flow.num (12 * c.loop-flow.busy * c.loop-flow.den) f e
    (whole_small c.loop-flow.den c.loop-flow.busy c.loop-flow.flow-index (omega arith) c.loop-flow.invariant.few
    c.loop-flow.invariant.den_small)
