use Rattle.tests_server.proofs.EmptyLaws.{day_fits, past_fits}
use Rattle.tests_server.proofs.tests.shared_keepers.refuses.Goals as goal

pub put_day-requires-clause-fits : goal.put_day-requires-clause-fits
put_day-requires-clause-fits g c = day_fits _ _ c.empty_day.ensures

pub put_past-requires-clause-fits : goal.put_past-requires-clause-fits
put_past-requires-clause-fits g c = past_fits _ _ c.history.ensures
