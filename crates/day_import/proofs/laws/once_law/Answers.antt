use Rattle.day_import.proofs.RepeatLaws.{once_law}
use Rattle.day_import.proofs.laws.once_law.Goals as goal

pub returns : goal.returns
returns c = once_law
