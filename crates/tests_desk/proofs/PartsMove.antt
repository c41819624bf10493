-- What a shared desk of these tests is made of may move between threads.
use denote.Param.Send.{IsSend, sendable}
use Rattle.std.proofs.Crossing as Crossing
use Rattle.std.proofs.MapsCrossing as MapsCrossing
use Rattle.keep_office.specs.contracts.memory.MemKeeper as MemKeeper
use Rattle.ways_crews.specs.contracts.inline_crew.InlineCrew as InlineCrew
use Rattle.ways_crews.proofs.inline_crew.InlineCrew.TheSendSync as InlineCrewMoves

-- a keeper in memory may
pub keeper_moves : IsSend MemKeeper.the_row
keeper_moves = search (MapsCrossing.crosses, Crossing.crosses, sendable) depth 60 fits 20000

-- and so may a crew that runs a job as it is started
pub crew_moves : IsSend InlineCrew.the_row
crew_moves = InlineCrewMoves.the_send
