use Rattle.std.proofs.Common.{[], true, subst, refl, ◌∙◌}
use Rattle.ways_crews.specs.Callers.{HasOut}
use Rattle.ways_crews.proofs.CallerLaws.{first_task}
use Rattle.ways_crews.proofs.ListingLaws.{where_finished, where_unseen}
use Rattle.ways_crews.proofs.drain.finish_all.Goals as goal

pub loop-ticket-init : goal.loop-ticket-init
loop-ticket-init g c =
    record { out = c.requires; told = λ before jobs refused h. where_unseen before jobs _ refused _ h; which = refl }

pub finish_among-done-requires : goal.finish_among-done-requires
finish_among-done-requires g c =
    let k = g.C.Crew in
    let (tasks, are, h) = c.loop-ticket.invariant.out in
    let (job, after, is, left) =
    first_task c.in-Some.ticket c.pop_front.new.self.items tasks (are ∙ c.in-Some.ensures.items) in
    ([], job, after, subst (λ ts. HasOut k.out k.number k.holds k.gave c.loop-ticket.crew ts) is h)

pub loop-ticket-preserved : goal.loop-ticket-preserved
loop-ticket-preserved g c =
    let k = g.C.Crew in
    let (tasks, are, h) = c.loop-ticket.invariant.out in
    let (job, after, is, left) =
    first_task c.in-Some.ticket c.pop_front.new.self.items tasks (are ∙ c.in-Some.ensures.items) in
    let mine = subst (λ ts. HasOut k.out k.number k.holds k.gave c.loop-ticket.crew ts) is h in
    record {
      out = (after, left, c.finish_among-done.ensures.out [] job after mine);
      told = λ before jobs refused start.
          where_finished before jobs _ _ true _ _ _ c.finish_among-done.result
          (c.loop-ticket.invariant.told before jobs refused start) c.finish_among-done.ensures.jobs
          c.finish_among-done.ensures.numbers;
      which = c.finish_among-done.ensures.which ∙ c.loop-ticket.invariant.which;
    }
