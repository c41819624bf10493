use Rattle.std.proofs.Common.{sym, ◌∙◌}
use Rattle.ways_expressway.proofs.ShapeLaws.{shaped}
use Rattle.ways_crews.specs.Threads.{Remembers}
use Rattle.ways_crews.proofs.Puts.{take_less}
use Rattle.ways_crews.proofs.HeldJobs.{take_keeps, take_leaves}
use Rattle.ways_crews.proofs.thread_crew.ThreadCrewCrew.finish.Goals as goal

pub returns-clause-out : goal.returns-clause-out
returns-clause-out g c = take_less _ _ _ _ c.take.ensures

pub returns-clause-shape : goal.returns-clause-shape
returns-clause-shape g c j held = shaped j _ (c.end.ensures j (c.requires.given j held))

pub returns-clause-run : goal.returns-clause-run
returns-clause-run g c exact j held = c.end.ensures j (c.requires.given j held)

pub returns-clause-others : goal.returns-clause-others
returns-clause-others g c n j apart held = take_keeps Remembers _ n _ _ _ j c.take.ensures apart held

pub returns-clause-tickets : goal.returns-clause-tickets
returns-clause-tickets g c t apart gave job (e, at, fit) =
    gave job (e, sym (take_leaves _ _ _ _ _ c.take.ensures apart) ∙ at, fit)
