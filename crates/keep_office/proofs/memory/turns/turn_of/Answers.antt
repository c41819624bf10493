use Rattle.std.proofs.Common.{arith}
use Rattle.road_io.proofs.PlanLaws.{plan_next}
use Rattle.keep_office.proofs.memory.turns.turn_of.Goals as goal

pub returns-clause-next : goal.returns-clause-next
returns-clause-next c = λ n. plan_next c.args.fails.now c.args.call _ n (λ i. omega (arith, c.type_inv.fails i))
    (omega (arith, c.saturating_add.ensures))
