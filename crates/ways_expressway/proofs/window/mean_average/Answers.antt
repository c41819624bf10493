use Rattle.std.proofs.Common.{ℕ, ◌<◌, ◌+◌, ◌*◌, ◌^◌, arith, add-one, get_or}
use Rattle.std.proofs.Math.Nat.{pow-suc}
use Rattle.std.proofs.Math.Facts.{Fits-of_lt}
use Rattle.road_time.proofs.MeanLaws.{den_step, den_fits, whole_small, whole_fits, sum_yes, sum_no, count_yes, count_no}
use Rattle.ways_expressway.proofs.MeanLaws.{den_some, num_step, num_fits, whole_some, mean_slow}
use Rattle.ways_expressway.specs.Parts.{shown_flow}
use Rattle.ways_expressway.specs.declared.window.Flow.{Flow as CodeFlow}
use Rattle.ways_expressway.proofs.window.mean_average.Goals as goal
use Rattle.ways_expressway.proofs.window.mean_average.Goals.{then-flow-gt0, else-flow-gt0}

-- no car
abbrev none : CodeFlow
none = record { cars = 0; speeds12 = 0 }

part_of : (a b : ℕ) → a + b < 2 ^ 128 → b < 2 ^ 128
part_of a b h = omega arith

pub loop-flow-preserved : goal.loop-flow-preserved
loop-flow-preserved c =
    let i = c.loop-flow.flow-index in
    let f = get_or c.args.flows.now i none in
    let inv = c.loop-flow.invariant in
    let small = c.requires.small i none c.loop-flow-test.true in
    elim c.if-flow-gt0.branch [
      | then-flow-gt0 w ↦ record {
        sum = rw (w.num-is, w.den-is, w.from.ensures, w.from-then-flow-gt0.ensures, w.from-den.ensures)
            (sum_yes shown_flow c.args.flows.now i none c.loop-flow.num c.loop-flow.den c.loop-flow.busy
            c.loop-flow-test.true
            inv.sum inv.busy w.if-flow-gt0.true);
        busy = rw w.busy-is
            (count_yes shown_flow c.args.flows.now i none c.loop-flow.num c.loop-flow.den c.loop-flow.busy
            c.loop-flow-test.true
            inv.sum inv.busy w.if-flow-gt0.true);
        few = omega arith;
        den_some = rw (w.den-is, w.from-den.ensures) (den_some c.loop-flow.den f.cars inv.den_some w.if-flow-gt0.true);
        den_small =
            rw (w.den-is, w.from-den.ensures, add-one, pow-suc 500000 i)
            (den_step c.loop-flow.den f.cars (500000 ^ i) inv.den_small small.few);
        mean = rw (w.num-is, w.busy-is, w.den-is, w.from.ensures, w.from-then-flow-gt0.ensures, w.from-den.ensures)
            (num_step c.loop-flow.num f.speeds12 c.loop-flow.den f.cars c.loop-flow.busy inv.mean small.slow);
      }
      | else-flow-gt0 w ↦ record {
        sum = rw (w.num-is, w.den-is)
            (sum_no shown_flow c.args.flows.now i none c.loop-flow.num c.loop-flow.den c.loop-flow.busy
            c.loop-flow-test.true
            inv.sum inv.busy w.if-flow-gt0.false);
        busy = rw w.busy-is
            (count_no shown_flow c.args.flows.now i none c.loop-flow.num c.loop-flow.den c.loop-flow.busy
            c.loop-flow-test.true
            inv.sum inv.busy w.if-flow-gt0.false);
        few = omega arith;
        den_some = rw w.den-is inv.den_some;
        den_small = rw (w.den-is, add-one, pow-suc 500000 i) (omega arith);
        mean = rw (w.num-is, w.busy-is, w.den-is) inv.mean;
      }
    ]

pub overflow_add-num : goal.overflow_add-num
overflow_add-num c =
    let i = c.loop-flow.flow-index in
    let f = get_or c.args.flows.now i none in
    let inv = c.loop-flow.invariant in
    let small = c.requires.small i none c.loop-flow-test.true in
    rw (c.from.ensures, c.from-then-flow-gt0.ensures)
    (Fits-of_lt
    (num_fits c.loop-flow.num f.speeds12 c.loop-flow.den f.cars c.loop-flow.busy i (omega arith) inv.few inv.mean
    small.slow inv.den_small small.few))

pub overflow_mul-num-then-flow-gt0 : goal.overflow_mul-num-then-flow-gt0
overflow_mul-num-then-flow-gt0 c =
    let i = c.loop-flow.flow-index in
    let f = get_or c.args.flows.now i none in
    let inv = c.loop-flow.invariant in
    let small = c.requires.small i none c.loop-flow-test.true in
    let sum : c.loop-flow.num * f.cars + f.speeds12 * c.loop-flow.den < 2 ^ 128 =
    num_fits c.loop-flow.num f.speeds12 c.loop-flow.den f.cars c.loop-flow.busy i (omega arith) inv.few inv.mean
    small.slow inv.den_small small.few in
    let part : f.speeds12 * c.loop-flow.den < 2 ^ 128 =
    part_of (c.loop-flow.num * f.cars) (f.speeds12 * c.loop-flow.den) sum in
    rw c.from-then-flow-gt0.ensures (Fits-of_lt part)

pub overflow_mul-den : goal.overflow_mul-den
overflow_mul-den c =
    let i = c.loop-flow.flow-index in
    let small = c.requires.small i none c.loop-flow-test.true in
    rw c.from-den.ensures
    (Fits-of_lt
    (den_fits c.loop-flow.den (get_or c.args.flows.now i none).cars i (omega arith) c.loop-flow.invariant.den_small
    small.few))

pub overflow_mul-result-else-busy-eq0 : goal.overflow_mul-result-else-busy-eq0
overflow_mul-result-else-busy-eq0 c =
    Fits-of_lt
    (whole_fits c.loop-flow.den c.loop-flow.busy c.loop-flow.flow-index (omega arith) c.loop-flow.invariant.few
    c.loop-flow.invariant.den_small)

pub returns-else-busy-eq0-clause-average : goal.returns-else-busy-eq0-clause-average
returns-else-busy-eq0-clause-average c =
    let inv = c.loop-flow.invariant in (
      whole_some c.loop-flow.den c.loop-flow.busy inv.den_some (omega arith),
      whole_small c.loop-flow.den
          c.loop-flow.busy c.loop-flow.flow-index (omega arith) inv.few inv.den_small,
      mean_slow c.loop-flow.num
          c.loop-flow.den c.loop-flow.busy inv.mean,
    )
