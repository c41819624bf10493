use Rattle.ways_crews.specs.Entries.{IsShapedFor}
use Rattle.ways_crews.specs.Marks.{HasToll}
use Rattle.ways_crews.proofs.Puts.{put_more}
use Rattle.ways_crews.proofs.HeldJobs.{put_there, put_keeps, put_each, put_keeps_each}
use Rattle.ways_crews.proofs.mark_crew.MarkCrewCrew.start.Goals as goal

pub returns-clause-out : goal.returns-clause-out
returns-clause-out c = put_more _ _ _ _ c.put.ensures

pub returns-clause-held : goal.returns-clause-held
returns-clause-held c = (_, put_there _ _ _ _ c.put.ensures, c.mark-done.ensures.shape _ c.run.ensures)

pub returns-clause-given : goal.returns-clause-given
returns-clause-given c = put_each (HasToll c.args.self.now.toll) _ _ _ _ c.put.ensures c.mark-done.ensures.tolls

pub returns-clause-others : goal.returns-clause-others
returns-clause-others c n j apart held = put_keeps IsShapedFor _ n _ _ _ j c.put.ensures apart held

pub returns-clause-tickets : goal.returns-clause-tickets
returns-clause-tickets c t apart gave = put_keeps_each (HasToll c.args.self.now.toll) _ _ _ _ _ c.put.ensures apart gave
