use Rattle.keep_office.proofs.DayLaws.{day_law}
use Rattle.keep_office.proofs.renewal_laws.day_law.Goals as goal

pub returns : goal.returns
returns c = day_law
