-- a crew whose jobs have threads of their own may move between threads
use denote.RattleType.{RattleType}
use denote.Param.Send.{IsSend, sendable}
use Rattle.std.proofs.Crossing as Crossing
use Rattle.ways_crews.specs.contracts.thread_crew.ThreadCrew as ThreadCrew
use Rattle.ways_crews.specs.contracts.gate.NoGate as NoGate

-- its runtime may
pub crew_moves : (R : RattleType) → IsSend R → IsSend (ThreadCrew.the_row R NoGate.the_row)
crew_moves R moves = search (Crossing.crosses, sendable) depth 60 fits 20000
