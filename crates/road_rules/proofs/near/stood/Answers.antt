use Rattle.std.proofs.Common.{◌≡◌, ◌-◌, ◌*◌, ◌+◌, arith, sym, ap, ◌∙◌, rules, rules}
use Rattle.road_time.specs.Tuples.{reports}
use Rattle.road_time.specs.Stops.{stood as defined_stood}
use Rattle.road_time.specs.Tolls.{stops_at}
use Rattle.road_time.proofs.StoodLaws.{stood_at, stood_never, stood_zero}
use Rattle.road_rules.proofs.near.stood.Goals as goal

pub returns-then-in_minute-eq0 : goal.returns-then-in_minute-eq0
returns-then-in_minute-eq0 c =
    sym (ap (λ m. defined_stood (stops_at (reports c.args.tuples.now)) m c.args.stretch) c.if-in_minute-eq0.true
    ∙ stood_zero (stops_at (reports c.args.tuples.now)) c.args.stretch)

pub returns-then-branch : goal.returns-then-branch
returns-then-branch c =
    sym (stood_at (stops_at (reports c.args.tuples.now)) c.args.in_minute c.args.stretch c.loop-second.second
    (omega arith) (omega arith) (omega arith) (search rules))

pub returns : goal.returns
returns c =
    let end : c.loop-second.second ≡ 60 * (c.args.in_minute - 1) + 60 = omega arith in
    sym (stood_never (stops_at (reports c.args.tuples.now)) c.args.in_minute c.args.stretch (omega arith)
    (λ t low high. c.loop-second.invariant t (omega arith) (omega arith)))
