use Rattle.keep_office.proofs.HistoryLaws.{day_rows_law}
use Rattle.keep_office.proofs.laws.day_rows_law.Goals as goal

pub returns : goal.returns
returns c = day_rows_law
