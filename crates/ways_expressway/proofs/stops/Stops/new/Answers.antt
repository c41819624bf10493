use Rattle.ways_expressway.proofs.Changes.{stand_new}
use Rattle.ways_expressway.proofs.stops.Stops.new.Goals as goal

pub returns-clause-stands : goal.returns-clause-stands
returns-clause-stands c = rw (c.new.ensures.empty, c.new-2.ensures.empty, c.new-3.ensures.empty) stand_new
