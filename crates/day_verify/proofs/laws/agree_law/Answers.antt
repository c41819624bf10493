use Rattle.day_verify.proofs.RightLaws.{agree_law}
use Rattle.day_verify.proofs.laws.agree_law.Goals as goal

pub returns : goal.returns
returns c = agree_law
