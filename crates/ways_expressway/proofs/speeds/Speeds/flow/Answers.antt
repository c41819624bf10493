use Rattle.ways_expressway.proofs.NoteParts.{ring_small}
use Rattle.ways_expressway.proofs.speeds.Speeds.flow.Goals as goal

pub returns-in-Some-clause-small : goal.returns-in-Some-clause-small
returns-in-Some-clause-small c =
    ring_small c.self.inside.rings.entries c.self.invariant c.args.stretch c.in-Some.ring.now c.in-Some.ensures.value
    c.at.result c.args.minute c.at.ensures
