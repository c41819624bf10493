use Rattle.day_verify.proofs.RightLaws.{verified_law}
use Rattle.day_verify.proofs.laws.verified_law.Goals as goal

pub returns : goal.returns
returns c = verified_law
