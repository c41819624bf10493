-- The routes of the desk may move between threads, and threads may share them.
use denote.Param.Send.{IsSend, IsSync, sendable}
use Rattle.std.proofs.Crossing as Crossing
use Rattle.matchit.proofs.tree.Node.TheLaws.TheKnot as NodesMove
use Rattle.serve_requests.specs.contracts.routing.Routes.{the_row}

-- they may move
pub routes_move : IsSend the_row
routes_move = search (Crossing.crosses, NodesMove.crosses, sendable) depth 60 fits 20000

-- and be shared
pub routes_are_shared : IsSync the_row
routes_are_shared = search (Crossing.crosses, NodesMove.crosses, sendable) depth 60 fits 20000
