use Rattle.office_reports.proofs.WorkedLaws.{charged_fits}
use Rattle.tests_road.proofs.tests.statements.charged_day.Goals as goal

pub put_day-requires-clause-fits : goal.put_day-requires-clause-fits
put_day-requires-clause-fits c = charged_fits _ _ _ c.day_of.ensures c.amount.ensures
