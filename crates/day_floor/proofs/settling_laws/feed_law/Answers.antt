use Rattle.day_floor.proofs.StayLaws.{waits_fed}
use Rattle.day_floor.proofs.settling_laws.feed_law.Goals as goal

pub returns : goal.returns
returns c = waits_fed
