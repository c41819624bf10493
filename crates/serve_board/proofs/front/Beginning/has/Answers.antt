use Rattle.std.proofs.Common.{◌≤◌, length, ap, subst, arith, List}
use mathlib.Core.List.{IsPrefix}
use Rattle.day_floor.specs.Operations.{Operation}
use Rattle.serve_board.proofs.OperationLaws.{shorter}
use Rattle.serve_board.proofs.front.Beginning.has.Goals as goal

pub returns-then-self-other-clause-less : goal.returns-then-self-other-clause-less
returns-then-self-other-clause-less c short =
    let both = c.learn.new.self.log in
    let this : IsPrefix c.self.inside.seen.log both =
    subst (λ (l : List Operation). IsPrefix l both) (ap (λ s. s.log) c.again-both.ensures) c.learn.ensures.2 in
    let few : length c.self.inside.seen.log ≤ length c.other.inside.seen.log =
    omega (arith, c.self.invariant, c.other.invariant) in
    rw (← c.self.view_is, ← c.other.view_is)
    (shorter c.self.inside.seen.log c.other.inside.seen.log both this c.learn.ensures.3 few)

pub returns-clause-has : goal.returns-clause-has
returns-clause-has c long =
    let both = c.learn.new.self.log in
    let this : IsPrefix c.self.inside.seen.log both =
    subst (λ (l : List Operation). IsPrefix l both) (ap (λ s. s.log) c.again-both.ensures) c.learn.ensures.2 in
    let few : length c.other.inside.seen.log ≤ length c.self.inside.seen.log =
    omega (arith, c.self.invariant, c.other.invariant) in
    rw (← c.self.view_is, ← c.other.view_is)
    (shorter c.other.inside.seen.log c.self.inside.seen.log both c.learn.ensures.3 this few)
