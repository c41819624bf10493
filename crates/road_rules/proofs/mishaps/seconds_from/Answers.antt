use Rattle.std.proofs.Common.{◌≡◌, ◌+◌, ◌-◌, arith, ap, sym, ◌∙◌, false}
use Rattle.road_rules.specs.Groups.{stands_with}
use Rattle.road_rules.proofs.GroupLaws.{run_is}
use Rattle.road_rules.proofs.mishaps.seconds_from.Goals as goal

pub returns-then-not-stands_with-clause-exact : goal.returns-then-not-stands_with-clause-exact
returns-then-not-stands_with-clause-exact c =
    let p = stands_with c.args.halts.now in
    let from = c.args.from in
    let here : from + (c.loop-second.second - from) ≡ c.loop-second.second = omega arith in
    let off : p c.loop-second.second ≡ false = sym c.stands_with.ensures ∙ c.if-not-stands_with.true in
    sym (run_is p from (c.args.last + 1 - from) (c.loop-second.second - from) (omega arith)
    (λ t low high. c.loop-second.invariant t low (omega arith)) (λ less. ap p here ∙ off))

pub returns-clause-exact : goal.returns-clause-exact
returns-clause-exact c =
    let p = stands_with c.args.halts.now in
    let from = c.args.from in
    sym (run_is p from (c.args.last + 1 - from) (c.args.last + 1 - from) (omega arith)
    (λ t low high. c.loop-second.invariant t low (omega arith)) (λ less. absurd (omega arith)))
