use Rattle.std.proofs.Common.{subst, IsOk}
use Rattle.road_io.proofs.cutter.LineCutter.advance.Goals as goal

pub returns-in-Some-cut_held-clause-sure : goal.returns-in-Some-cut_held-clause-sure
returns-in-Some-cut_held-clause-sure g c =
    λ _ never. (c.in-Some-cut_held.ensures.unread, c.loop-answer.invariant.sure never)

pub returns-in-Ok-false-clause-sure : goal.returns-in-Ok-false-clause-sure
returns-in-Ok-false-clause-sure g c =
    λ _ never. (λ e. let bad : ⊥ = cc in bad, (c.fill.ensures.sure (c.loop-answer.invariant.sure never)).1)

pub returns-in-Err-clause-sure : goal.returns-in-Err-clause-sure
returns-in-Err-clause-sure g c =
    λ _ never. absurd (cc (subst IsOk c.in-Err.is (c.fill.ensures.sure (c.loop-answer.invariant.sure never)).0))
