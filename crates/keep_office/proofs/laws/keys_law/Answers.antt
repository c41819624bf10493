use Rattle.keep_office.proofs.HistoryLaws.{keys_law}
use Rattle.keep_office.proofs.laws.keys_law.Goals as goal

pub returns : goal.returns
returns c = keys_law
