use Rattle.day_reading.proofs.BoundLaws.{none_left}
use Rattle.day_reading.proofs.whole_day.whole.Goals as goal

pub returns-clause-left : goal.returns-clause-left
returns-clause-left g c =
    λ left bytes taken read. none_left c.args.reader.cutter left c.args.reader.consumed bytes taken.1 read
