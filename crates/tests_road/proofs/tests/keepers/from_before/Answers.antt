use Rattle.keep_office.proofs.WorkedLaws.{old_day_sound}
use Rattle.tests_road.proofs.tests.keepers.from_before.Goals as goal

pub from_old-requires : goal.from_old-requires
from_old-requires c = old_day_sound _ _ c.empty_day.ensures
