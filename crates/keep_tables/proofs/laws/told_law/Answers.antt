use Rattle.keep_tables.proofs.StandLaws.{stands_if_told, told_if_stands}
use Rattle.keep_tables.proofs.laws.told_law.Goals as goal

pub returns : goal.returns
returns c = λ db o. (stands_if_told db o, told_if_stands db o)
