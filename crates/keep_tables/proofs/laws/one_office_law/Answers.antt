use Rattle.keep_tables.proofs.StandLaws.{stands_for_one}
use Rattle.keep_tables.proofs.laws.one_office_law.Goals as goal

pub returns : goal.returns
returns c = stands_for_one
