use Rattle.std.proofs.Common.{true}
use Rattle.ways_crews.proofs.ListingLaws.{where_first}
use Rattle.day_import.proofs.RoundJobLaws.{first_started}
use Rattle.day_import.proofs.begun.stop.Goals as goal

pub finish_all-requires : goal.finish_all-requires
finish_all-requires g c = let (told, width, limits, day, h) = c.requires in (h.tasks, h.tickets, h.held)

pub returns-clause-jobs : goal.returns-clause-jobs
returns-clause-jobs g c told width limits day h = (
  h.since,
  first_started width limits h.state day h.since h.sound h.first h.starts,
  where_first told h.since _ _ _
      (c.finish_all.ensures.told told h.since true h.listing),
)
