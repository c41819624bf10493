use Rattle.std.proofs.Common.{subst, sym, ◌∙◌}
use Rattle.ways_crews.specs.Threads.{Remembers, WillFit}
use Rattle.ways_crews.proofs.Puts.{put_more}
use Rattle.ways_crews.proofs.HeldJobs.{put_there, put_keeps, put_leaves, one_entry}
use Rattle.ways_crews.proofs.thread_crew.ThreadCrewCrew.start.Goals as goal

pub returns-clause-out : goal.returns-clause-out
returns-clause-out g c = put_more _ _ _ _ c.put-number.ensures

pub returns-clause-held : goal.returns-clause-held
returns-clause-held g c = (_, put_there _ _ _ _ c.put-number.ensures, c.of.ensures)

pub returns-clause-given : goal.returns-clause-given
returns-clause-given g c job (e, at, fit) =
    let same =
    subst (λ x. Remembers x job)
    (one_entry c.put-number.new.self.items c.put-number.result _ _ at (put_there _ _ _ _ c.put-number.ensures))
    fit in
    subst (λ j. WillFit c.hold-held.result j) (sym c.of.ensures ∙ same) c.hold-held.ensures

pub returns-clause-others : goal.returns-clause-others
returns-clause-others g c n j apart held = put_keeps Remembers _ n _ _ _ j c.put-number.ensures apart held

pub returns-clause-tickets : goal.returns-clause-tickets
returns-clause-tickets g c t apart gave job (e, at, fit) =
    gave job (e, sym (put_leaves _ _ _ _ _ c.put-number.ensures apart) ∙ at, fit)
