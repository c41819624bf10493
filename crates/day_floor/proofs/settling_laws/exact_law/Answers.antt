use Rattle.day_floor.proofs.AnswerLaws.{notices_exact}
use Rattle.day_floor.proofs.settling_laws.exact_law.Goals as goal

pub returns : goal.returns
returns c = notices_exact
