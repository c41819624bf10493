use Rattle.ways_audit.proofs.PositionLaws.{seen_at, in_parts}
use Rattle.ways_audit.proofs.RoutingLaws.{no_tuple}
use Rattle.ways_audit.proofs.laws.seen_law.Goals as goal

pub returns-clause-seen : goal.returns-clause-seen
returns-clause-seen c = λ day position h. seen_at day position no_tuple h

pub returns-clause-parts : goal.returns-clause-parts
returns-clause-parts c = in_parts
