use Rattle.std.proofs.Common.{◌∙◌, ap, List, length, length-set}
use Rattle.std.specs.Prelude.{Option, None}
use Rattle.ways_crews.specs.declared.place.TicketPlace.{TicketPlace}
use Rattle.ways_expressway.proofs.ShapeLaws.{shaped}
use Rattle.ways_crews.proofs.Puts.{take_less}
use Rattle.ways_crews.proofs.Tellings.{finish_tells, told_are_out}
use Rattle.ways_crews.specs.Crews.{is_unlisted}
use Rattle.ways_crews.proofs.CrewSteps.{answered_beside, answered_others, answered_free}
use Rattle.ways_crews.proofs.standing_crew.StandingCrewCrew.finish.Goals as goal

pub invariant_of-self : goal.invariant_of-self
invariant_of-self g c =
    let crew = c.args.self.now in
    let same = c.finish_at.ensures.same in
    let t = c.finish_at.ensures.finished in
    let beside = answered_beside _ _ _ _ t.answered in
    record {
      at = (same.0 ∙ crew.at.0, crew.at.1);
      first = same.1 ∙ crew.first;
      idle = beside.taken ∙ crew.idle;
      hands = beside.hands ∙ crew.hands;
      wide = beside.wide ∙ crew.wide;
      all = ap (λ (ps : List (Option TicketPlace)). length ps) t.taken.is ∙ (length-set _ _ (None) ∙ crew.all);
      free = answered_free _ _ _ _ _ _ _ crew.free t.taken t.answered;
    }

pub returns-clause-out : goal.returns-clause-out
returns-clause-out g c = let t = c.finish_at.ensures.finished in take_less _ _ _ _ t.taken

pub returns-clause-others : goal.returns-clause-others
returns-clause-others g c n j apart held = let t = c.finish_at.ensures.finished in
    answered_others _ n j _ _ _ _ _ t.taken t.answered apart held

pub returns-clause-shape : goal.returns-clause-shape
returns-clause-shape g c j held = shaped j _ (c.finish_at.ensures.run j held)

pub returns-clause-run : goal.returns-clause-run
returns-clause-run g c exact j held = c.finish_at.ensures.run j held

pub returns-clause-jobs : goal.returns-clause-jobs
returns-clause-jobs g c = let t = c.finish_at.ensures.finished in finish_tells is_unlisted _ _ _ _ _ _ t.taken t.refused

pub returns-clause-unlisted : goal.returns-clause-unlisted
returns-clause-unlisted g c n = told_are_out is_unlisted _ _ n
