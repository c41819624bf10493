use Rattle.ways_expressway.proofs.ShapeLaws.{shaped}
use Rattle.ways_crews.specs.Entries.{IsOf, IsYetToRun, is_unlisted}
use Rattle.ways_crews.proofs.Puts.{take_less}
use Rattle.ways_crews.proofs.HeldJobs.{take_keeps, take_keeps_each, taken_fits}
use Rattle.ways_crews.proofs.Tellings.{finish_tells, told_are_out}
use Rattle.ways_crews.proofs.late_crew.LateCrewCrew.finish.Goals as goal

pub returns-clause-out : goal.returns-clause-out
returns-clause-out c = take_less _ _ _ _ c.take-entry.ensures

pub returns-clause-shape : goal.returns-clause-shape
returns-clause-shape c j held =
    shaped j _ (c.run_waiting.ensures.run j (taken_fits IsOf _ _ _ _ j c.take-entry.ensures held))

pub returns-clause-others : goal.returns-clause-others
returns-clause-others c n j apart held = take_keeps IsOf _ n _ _ _ j c.take-entry.ensures apart held

pub returns-clause-tickets : goal.returns-clause-tickets
returns-clause-tickets c t apart gave = take_keeps_each IsYetToRun _ _ _ _ _ c.take-entry.ensures apart gave

pub returns-clause-jobs : goal.returns-clause-jobs
returns-clause-jobs c = finish_tells is_unlisted _ _ _ _ _ _ c.take-entry.ensures c.run_waiting.ensures.err

pub returns-clause-unlisted : goal.returns-clause-unlisted
returns-clause-unlisted c n = told_are_out is_unlisted _ _ n
