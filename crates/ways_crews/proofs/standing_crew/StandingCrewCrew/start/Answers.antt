use Rattle.std.proofs.Common.{◌∙◌, ap, List, length, length-set}
use Rattle.std.specs.Prelude.{Option, Some}
use Rattle.ways_crews.specs.declared.place.TicketPlace.{TicketPlace}
use Rattle.ways_crews.proofs.Puts.{put_more}
use Rattle.ways_crews.proofs.Tellings.{start_tells, told_are_out}
use Rattle.ways_crews.specs.Crews.{is_unlisted}
use Rattle.ways_crews.proofs.CrewSteps.{begun_beside, begun_held, begun_others, begun_free}
use Rattle.ways_crews.proofs.standing_crew.StandingCrewCrew.start.Goals as goal

pub invariant_of-self : goal.invariant_of-self
invariant_of-self g c =
    let crew = c.args.self.now in
    let same = c.start_at.ensures.same in
    let t = c.start_at.ensures.started in
    let beside = begun_beside _ _ _ _ _ _ t.begun in
    record {
      at = (same.0 ∙ crew.at.0, crew.at.1);
      first = same.1 ∙ crew.first;
      idle = beside.taken ∙ crew.idle;
      hands = beside.hands ∙ crew.hands;
      wide = beside.wide ∙ crew.wide;
      all = ap (λ (ps : List (Option TicketPlace)). length ps) t.put.is ∙ (length-set _ _ (Some t.place) ∙ crew.all);
      free = begun_free _ _ _ _ _ _ _ _ crew.free t.put t.begun;
    }

pub returns-clause-out : goal.returns-clause-out
returns-clause-out g c = let t = c.start_at.ensures.started in put_more _ _ _ _ t.put

pub returns-clause-held : goal.returns-clause-held
returns-clause-held g c = let t = c.start_at.ensures.started in
    begun_held _ _ _ _ _ _ _ _ c.args.self.now.wide t.put t.begun

pub returns-clause-others : goal.returns-clause-others
returns-clause-others g c n j apart held = let t = c.start_at.ensures.started in
    begun_others _ _ n _ j _ _ _ _ _ t.put t.begun apart held

pub returns-clause-jobs : goal.returns-clause-jobs
returns-clause-jobs g c = let t = c.start_at.ensures.started in
    start_tells is_unlisted _ _ _ _ _ _ _ _ c.list-listed.ensures t.put t.says

pub returns-clause-unlisted : goal.returns-clause-unlisted
returns-clause-unlisted g c n = told_are_out is_unlisted _ _ n
