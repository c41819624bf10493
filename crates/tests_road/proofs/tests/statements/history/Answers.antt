use Rattle.keep_office.proofs.WorkedLaws.{history_fits}
use Rattle.tests_road.proofs.tests.statements.history.Goals as goal

pub put_past-requires-clause-fits : goal.put_past-requires-clause-fits
put_past-requires-clause-fits c = history_fits _ _ _ _ c.past_of-past.ensures c.amount.ensures c.amount-2.ensures
