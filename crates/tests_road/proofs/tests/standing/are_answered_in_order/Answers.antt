use Rattle.std.proofs.Common.{[], ◌∷◌, arith}
use Rattle.ways_crews.proofs.CallerLaws.{idle}
use Rattle.tests_road.proofs.tests.standing.are_answered_in_order.Goals as goal

pub start_beside-two-requires-clause-room : goal.start_beside-two-requires-clause-room
start_beside-two-requires-clause-room g c =
    let k = g.C.Crew in
    (_, c.start_beside-one.ensures.out [] (idle k.out k.number k.holds k.gave _ c.requires), omega arith)

pub finish_among-sooner-requires : goal.finish_among-sooner-requires
finish_among-sooner-requires g c =
    let k = g.C.Crew in
    let one = c.start_beside-one.ensures.out [] (idle k.out k.number k.holds k.gave _ c.requires) in
    ([], _, _ ∷ [], c.start_beside-two.ensures.out _ one)

pub finish_among-later-requires : goal.finish_among-later-requires
finish_among-later-requires g c =
    let k = g.C.Crew in
    let one = c.start_beside-one.ensures.out [] (idle k.out k.number k.holds k.gave _ c.requires) in
    let two = c.start_beside-two.ensures.out _ one in
    ([], _, [], c.finish_among-sooner.ensures.out [] _ (_ ∷ []) two)
