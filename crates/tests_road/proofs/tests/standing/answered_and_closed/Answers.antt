use Rattle.std.proofs.Common.{rules, ◌≡◌, subst, sym}
use Rattle.ways_crews.specs.Helpers.{AreHelpersOf, CrewName}
use Rattle.tests_road.proofs.tests.standing.answered_and_closed.Goals as goal

pub close-requires-clause-helpers : goal.close-requires-clause-helpers
close-requires-clause-helpers g c =
    let before : CrewName = (c.in_ok-crew.field-0.crew.board, c.in_ok-crew.field-0.crew.hired) in
    let after : CrewName = (c.beside-helpers.result.1.0.board, c.beside-helpers.result.1.0.hired) in
    let same : after ≡ before = search rules in
    subst (λ crew. AreHelpersOf crew c.beside-helpers.result.0.items) (sym same)
    (c.beside-helpers.ensures.helpers before c.in_ok-crew.ensures.helpers)
