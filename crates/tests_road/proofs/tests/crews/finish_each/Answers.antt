use Rattle.std.proofs.Common.{[], subst, ◌∙◌}
use Rattle.ways_crews.specs.Callers.{HasOut}
use Rattle.ways_crews.proofs.CallerLaws.{first_task}
use Rattle.tests_road.proofs.tests.crews.finish_each.Goals as goal

pub finish_among-done-requires : goal.finish_among-done-requires
finish_among-done-requires g c =
    let k = g.C.Crew in
    let (tasks, are, h) = c.loop-number.invariant in
    let (job, after, is, left) =
    first_task c.in-Some.ticket c.pop_front.new.self.items tasks (are ∙ c.in-Some.ensures.items) in
    ([], job, after, subst (λ ts. HasOut k.out k.number k.holds k.gave c.loop-number.crew ts) is h)

pub loop-number-preserved : goal.loop-number-preserved
loop-number-preserved g c =
    let k = g.C.Crew in
    let (tasks, are, h) = c.loop-number.invariant in
    let (job, after, is, left) =
    first_task c.in-Some.ticket c.pop_front.new.self.items tasks (are ∙ c.in-Some.ensures.items) in
    let mine = subst (λ ts. HasOut k.out k.number k.holds k.gave c.loop-number.crew ts) is h in
    (after, left, c.finish_among-done.ensures.out [] job after mine)
