use Rattle.std.proofs.Common.{subst}
use Rattle.ways_crews.specs.Entries.{IsShapedFor}
use Rattle.ways_crews.specs.Marks.{HasToll}
use Rattle.ways_crews.proofs.Puts.{take_less}
use Rattle.ways_crews.proofs.HeldJobs.{take_keeps, take_keeps_each}
use Rattle.ways_crews.proofs.MarkLaws.{it_ran}
use Rattle.ways_crews.proofs.mark_crew.MarkCrewCrew.finish.Goals as goal

pub unreachable-requires : goal.unreachable-requires
unreachable-requires c =
    it_ran c.args.self.now.toll c.take.result (c.requires.given c.take.result c.take.ensures.there) c.in_default.not-Ran

pub returns-clause-out : goal.returns-clause-out
returns-clause-out c = take_less _ _ _ _ c.take.ensures

pub returns-clause-others : goal.returns-clause-others
returns-clause-others c n j apart held = take_keeps IsShapedFor _ n _ _ _ j c.take.ensures apart held

pub returns-clause-tickets : goal.returns-clause-tickets
returns-clause-tickets c t apart gave =
    take_keeps_each (HasToll c.args.self.now.toll) _ _ _ _ _ c.take.ensures apart gave

pub invariant_of-self-clause-tolls : goal.invariant_of-self-clause-tolls
invariant_of-self-clause-tolls c =
    let toll = c.args.self.now.toll in
    c.keep.ensures.tolls toll c.args.self.now.tolls
    (subst (HasToll toll) c.in-Ran.is (c.requires.given c.take.result c.take.ensures.there))
