use Rattle.std.proofs.Common.{refl}
use Rattle.road_time.specs.Ways.{way_of, worker_for}
use Rattle.road_time.specs.Tuples.{stretch_of, stretch_around}
use Rattle.ways_expressway.proofs.SeenLaws.{all_seen}
use Rattle.ways_expressway.proofs.TimeLaws.{stopped_then}
use Rattle.ways_expressway.proofs.FindingLaws.{one_at, found_whole}
use Rattle.ways_expressway.proofs.laws.routing_law.Goals as goal

pub returns-clause-seen : goal.returns-clause-seen
returns-clause-seen c = λ day limits fit width stretch. all_seen width stretch day

pub returns-clause-stopped : goal.returns-clause-stopped
returns-clause-stopped c = λ day limits fit width place vid second.
    stopped_then (worker_for (way_of (stretch_around place)) width) width second vid place refl day fit.in_order

pub returns-clause-found : goal.returns-clause-found
returns-clause-found c = λ day limits fit tariffs width before later r parts told.
    one_at day fit.in_order tariffs (worker_for (way_of (stretch_of r)) width) width before later r parts refl told

pub returns-clause-whole : goal.returns-clause-whole
returns-clause-whole c = λ day limits fit tariffs worker width. found_whole day fit.in_order tariffs worker width
