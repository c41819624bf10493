use Rattle.keep_office.proofs.StoredLaws.{stored_law}
use Rattle.keep_office.proofs.laws.stored_law.Goals as goal

pub returns : goal.returns
returns c = stored_law
