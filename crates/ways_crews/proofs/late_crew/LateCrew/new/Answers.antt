use Rattle.ways_crews.specs.Entries.{is_unlisted}
use Rattle.ways_crews.proofs.Tellings.{new_tells}
use Rattle.ways_crews.proofs.late_crew.LateCrew.new.Goals as goal

pub returns-clause-jobs : goal.returns-clause-jobs
returns-clause-jobs c = new_tells is_unlisted _ _ _ c.new-2.ensures c.new.ensures
