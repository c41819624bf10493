use Rattle.day_floor.proofs.StayLaws.{stands_by}
use Rattle.day_floor.proofs.settling_laws.finding_law.Goals as goal

pub returns : goal.returns
returns c = stands_by
