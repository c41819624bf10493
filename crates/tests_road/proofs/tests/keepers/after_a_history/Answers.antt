use Rattle.keep_office.proofs.WorkedLaws.{history_fits}
use Rattle.tests_road.proofs.tests.keepers.after_a_history.Goals as goal

pub put_past-requires-clause-fits : goal.put_past-requires-clause-fits
put_past-requires-clause-fits c = history_fits _ _ _ _ c.past_of.ensures c.amount.ensures c.amount-2.ensures
