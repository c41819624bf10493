use Rattle.std.proofs.Common.{◌≡◌, subst}
use Rattle.ways_expressway.specs.declared.job.Job.{Job}
use Rattle.ways_expressway.specs.Results.{IsResultOf}
use Rattle.ways_crews.specs.Views.{input_of}
use Rattle.ways_crews.specs.Crews.{IsHeldIn}
use Rattle.ways_crews.specs.declared.place.TicketPlace.{TicketPlace}
use Rattle.ways_crews.proofs.finishing.answer.Goals as goal

pub returns-in-Cell-clause-done : goal.returns-in-Cell-clause-done
returns-in-Cell-clause-done g c job held =
    c.await_done.ensures.done job
    (subst (λ (p : TicketPlace). IsHeldIn (input_of c.args.seat.now.me.0 c.args.at) p job) c.in-Cell.is held)

pub returns-in-Unlisted-clause-done : goal.returns-in-Unlisted-clause-done
returns-in-Unlisted-clause-done g c job held =
    let same : c.in-Unlisted.job ≡ job =
    subst (λ (p : TicketPlace). IsHeldIn (input_of c.args.seat.now.me.0 c.args.at) p job) c.in-Unlisted.is held in
    subst (λ (j : Job). IsResultOf j c.refused.result) same c.refused.ensures.of
