use Rattle.keep_office.proofs.RenewalHistoryLaws.{answers_law}
use Rattle.keep_office.proofs.renewal_laws.answers_law.Goals as goal

pub returns : goal.returns
returns c = answers_law
