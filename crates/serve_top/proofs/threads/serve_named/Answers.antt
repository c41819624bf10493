use denote.Builtin.{unit}
use denote.Param.{param, copied}
use denote.Exit.{no}
use denote.Param.Send.{arg_send, arg_sync, param_send, param_sync}
use Rattle.ways_crews.specs.contracts.thread_crew.ThreadCrew as ThreadCrew
use Rattle.ways_crews.specs.contracts.thread_crew.ThreadTicket as ThreadTicket
use Rattle.ways_crews.specs.contracts.gate.NoGate as NoGate
use Rattle.serve_requests.specs.contracts.routing.Routes as Routes
use Rattle.serve_requests.proofs.RouteMoves.{routes_move, routes_are_shared}
use Rattle.serve_top.specs.Served.{working}
use Rattle.serve_top.proofs.EarLaws.{served_seen}
use Rattle.serve_top.proofs.CrewMoves.{crew_moves}
use Rattle.serve_top.proofs.shared_desk.SharedDesk.TheSendSync as DeskMoves
use Rattle.serve_top.proofs.threads.serve_named.Goals as goal

pub returns-clause-desk : goal.returns-clause-desk
returns-clause-desk g c zero =
    served_seen (λ desk. working desk.plan desk.limits) _ _ _ _ _ _ _ _ (c.serve_words-status.ensures.desk zero)

-- the desk that loops share may move between threads: its type is an argument of the call
pub serve_words-status-requires-send-C-Shared : goal.serve_words-status-requires-send-C-Shared
serve_words-status-requires-send-C-Shared g c κs within =
    param_send 10 _ (arg_send _ no _ (DeskMoves.the_send (param 1 g.row.J) _ (ThreadCrew.the_row (copied 3 g.row.R)
    NoGate.the_row) (copied 3 g.row.R) Routes.the_row ThreadTicket.the_row unit _ _ _ _ c.type_bounds.send-K
    (crew_moves _ c.type_bounds.send-R) c.type_bounds.send-R routes_move))

-- and they may share it
pub serve_words-status-requires-sync-C-Shared : goal.serve_words-status-requires-sync-C-Shared
serve_words-status-requires-sync-C-Shared g c κs within =
    param_sync 10 _ (arg_sync _ no _ (DeskMoves.the_sync (param 1 g.row.J) _ (ThreadCrew.the_row (copied 3 g.row.R)
    NoGate.the_row) (copied 3 g.row.R) Routes.the_row ThreadTicket.the_row unit _ _ _ _ c.type_bounds.send-K
    (crew_moves _ c.type_bounds.send-R) c.type_bounds.send-R c.type_bounds.sync-R routes_are_shared))
