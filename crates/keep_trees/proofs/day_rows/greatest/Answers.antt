use Rattle.std.proofs.Common.{subst}
use Rattle.keep_trees.specs.Days.{IsLastDay}
use Rattle.keep_trees.proofs.DayFound.{last_is}
use Rattle.keep_trees.proofs.day_rows.greatest.Goals as goal

pub returns-in-Some-clause-done : goal.returns-in-Some-clause-done
returns-in-Some-clause-done g c clean o has =
    last_is o.days o.past c.in-Some.day has.holds.office.sound.days_rise
    (subst (IsLastDay o.days) c.in-Some.is ((c.in_ok-day.ensures.done clean) o has))
