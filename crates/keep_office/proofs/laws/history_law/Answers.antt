use Rattle.keep_office.proofs.HistoryLaws.{history_law}
use Rattle.keep_office.proofs.laws.history_law.Goals as goal

pub returns : goal.returns
returns c = history_law
