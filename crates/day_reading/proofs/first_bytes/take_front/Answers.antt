use Rattle.std.proofs.Common.{◌∙◌, ◌-◌, ◌+◌, ◌++◌, take, drop, Some, ap, arith}
use Rattle.std.proofs.lemmas.List.{length-take, length-append, length-drop}
use Rattle.day_reading.proofs.BoundLaws.{left_at}
use Rattle.day_reading.proofs.CompareLaws.{front_on, front_ended, front_at}
use Rattle.day_reading.proofs.first_bytes.take_front.Goals as goal

pub returns-then-count-eq0-clause-took : goal.returns-then-count-eq0-clause-took
returns-then-count-eq0-clause-took g c = λ bytes before told took.
    let most = c.args.most in
    let a = most - c.loop-rest.rest in
    let inv = c.loop-rest.invariant.took bytes before told took in
    front_ended a c.in-Ok.count most bytes before c.read_some.new.digester (g.S.Source.left c.read_some.new.source)
    (omega arith) c.if-count-eq0.true (c.in-Ok.ensures.took (drop a bytes) (before ++ take a bytes) inv.1 inv.0)

pub loop-rest-preserved : goal.loop-rest-preserved
loop-rest-preserved g c =
    let most = c.args.most in
    let a = most - c.loop-rest.rest in
    let bound = c.in-Ok.ensures.bound in
    let size = length-take c.min-size.result c.loop-rest.buffer in
    record {
      least = omega (arith, c.loop-rest.invariant.least);
      len = omega (
        arith,
        length-append c.read_some.new.buffer (drop c.min-size.result c.loop-rest.buffer),
        length-drop c.min-size.result c.loop-rest.buffer,
        size,
        c.min-size.ensures,
        c.read_some.auto.buffer,
        c.loop-rest.invariant.len,
      );
      took = λ bytes before told took. (
          let inv = c.loop-rest.invariant.took bytes before told took in
          let on = front_on a c.in-Ok.count bytes before c.read_some.new.digester
          (g.S.Source.left c.read_some.new.source)
          (c.in-Ok.ensures.took (drop a bytes) (before ++ take a bytes) inv.1 inv.0) in
          front_at (a + c.in-Ok.count) (most - (c.loop-rest.rest - c.in-Ok.count)) bytes before c.read_some.new.digester
          (g.S.Source.left c.read_some.new.source)
          (omega (arith, bound, size, c.min-size.ensures, c.loop-rest.invariant.least)) on);
      left = λ bytes told. left_at (most - c.loop-rest.rest) c.in-Ok.count (most - (c.loop-rest.rest - c.in-Ok.count))
          bytes (g.S.Source.left c.read_some.new.source)
          (omega (arith, bound, size, c.min-size.ensures, c.loop-rest.invariant.least))
          (c.in-Ok.ensures.left (drop (most - c.loop-rest.rest) bytes) (c.loop-rest.invariant.left bytes told));
      sure = λ never. (c.read_some.ensures.sure (c.loop-rest.invariant.sure never)).1;
      same = c.read_some.ensures.same ∙ c.loop-rest.invariant.same;
      stands = c.in-Ok.ensures.cause.passed ∙ c.loop-rest.invariant.stands;
    }

pub returns-clause-took : goal.returns-clause-took
returns-clause-took g c = λ bytes before told took.
    let most = c.args.most in
    let none = c.loop-rest-test.false in
    front_at (most - c.loop-rest.rest) most bytes before c.loop-rest.digester (g.S.Source.left c.loop-rest.source)
    (omega arith) (c.loop-rest.invariant.took bytes before told took)

pub returns-in-Err-clause-bounded : goal.returns-in-Err-clause-bounded
returns-in-Err-clause-bounded g c = λ bytes told.
    let a = c.args.most - c.loop-rest.rest in
    (a, omega arith, c.in-Err.ensures.failed (drop a bytes) (c.loop-rest.invariant.left bytes told))

pub returns-then-count-eq0-clause-bounded : goal.returns-then-count-eq0-clause-bounded
returns-then-count-eq0-clause-bounded g c = λ bytes told.
    let a = c.args.most - c.loop-rest.rest in (
      a,
      omega arith,
      c.in-Ok.ensures.left (drop a bytes) (c.loop-rest.invariant.left bytes told)
          ∙ ap (λ n. Some (drop n (drop a bytes))) c.if-count-eq0.true,
    )

pub returns-clause-bounded : goal.returns-clause-bounded
returns-clause-bounded g c =
    λ bytes told. (c.args.most - c.loop-rest.rest, omega arith, c.loop-rest.invariant.left bytes told)
