use Rattle.day_import.proofs.RepeatLaws.{repeat_law}
use Rattle.day_import.proofs.laws.repeat_law.Goals as goal

pub returns : goal.returns
returns c = repeat_law
