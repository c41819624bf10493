use Rattle.std.proofs.Common.{sym, ap}
use Rattle.serve_desk.specs.Days.{first_day}
use Rattle.serve_desk.proofs.kept_days.first_of.Goals as goal

pub returns-in-Some : goal.returns-in-Some
returns-in-Some c = sym (ap first_day c.in-Some.is)

pub returns-in-None : goal.returns-in-None
returns-in-None c = sym (ap first_day c.in-None.is)
