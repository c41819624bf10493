use Rattle.day_past.proofs.CauseLaws.{causes_law}
use Rattle.day_past.proofs.laws.causes_law.Goals as goal

pub returns : goal.returns
returns c = causes_law
