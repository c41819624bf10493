use Rattle.day_reading.proofs.GoodLaws.{first_line, good_lines}
use Rattle.day_reading.proofs.laws.check_law.Goals as goal

pub returns-clause-first : goal.returns-clause-first
returns-clause-first c = first_line c.args.limits.now c.args.late

pub returns-clause-good : goal.returns-clause-good
returns-clause-good c = good_lines c.args.limits.now c.args.late
