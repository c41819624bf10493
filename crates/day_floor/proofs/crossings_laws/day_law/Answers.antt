use Rattle.day_floor.proofs.DayLaws.{told_is_of_the_day}
use Rattle.day_floor.proofs.crossings_laws.day_law.Goals as goal

pub returns : goal.returns
returns c = told_is_of_the_day
