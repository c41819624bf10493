use Rattle.ways_crews.specs.Entries.{IsOf, HasRun, is_unlisted}
use Rattle.ways_crews.proofs.Puts.{put_more}
use Rattle.ways_crews.proofs.HeldJobs.{put_there, put_keeps, put_each, put_keeps_each}
use Rattle.ways_crews.proofs.Tellings.{start_tells, told_are_out}
use Rattle.ways_crews.proofs.inline_crew.InlineCrewCrew.start.Goals as goal

pub returns-clause-out : goal.returns-clause-out
returns-clause-out c = put_more _ _ _ _ c.put.ensures

pub returns-clause-held : goal.returns-clause-held
returns-clause-held c = (_, put_there _ _ _ _ c.put.ensures, c.run_now-entry.ensures.of)

pub returns-clause-given : goal.returns-clause-given
returns-clause-given c = put_each HasRun _ _ _ _ c.put.ensures c.run_now-entry.ensures.ran

pub returns-clause-others : goal.returns-clause-others
returns-clause-others c n j apart held = put_keeps IsOf _ n _ _ _ j c.put.ensures apart held

pub returns-clause-tickets : goal.returns-clause-tickets
returns-clause-tickets c t apart gave = put_keeps_each HasRun _ _ _ _ _ c.put.ensures apart gave

pub returns-clause-jobs : goal.returns-clause-jobs
returns-clause-jobs c =
    start_tells is_unlisted _ _ _ _ _ _ _ _ c.list-listed.ensures c.put.ensures c.run_now-entry.ensures.listed

pub returns-clause-unlisted : goal.returns-clause-unlisted
returns-clause-unlisted c n = told_are_out is_unlisted _ _ n
