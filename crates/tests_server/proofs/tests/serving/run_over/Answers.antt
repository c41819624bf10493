use denote.Builtin.{unit}
use denote.Exit.{no}
use denote.Param.{param, copied}
use denote.Param.Send.{arg_send, arg_sync, param_send, param_sync}
use Rattle.keep_office.specs.contracts.memory.MemKeeper as MemKeeper
use Rattle.ways_crews.specs.contracts.inline_crew.InlineCrew as InlineCrew
use Rattle.ways_crews.specs.contracts.places.Ticket as Ticket
use Rattle.serve_requests.specs.contracts.routing.Routes as Routes
use Rattle.serve_requests.proofs.RouteMoves.{routes_move, routes_are_shared}
use Rattle.serve_top.proofs.shared_desk.SharedDesk.TheSendSync as DeskMoves
use Rattle.tests_server.proofs.PartsMove.{keeper_moves, crew_moves}
use Rattle.tests_server.proofs.tests.serving.run_over.Goals as goal

-- the desk that loops share may move between threads: its type is an argument of the call
pub serve_words-status-requires-send-C-Shared : goal.serve_words-status-requires-send-C-Shared
serve_words-status-requires-send-C-Shared g c κs within =
    param_send 10 _ (arg_send _ no _ (DeskMoves.the_send (param 0 g.row.J) MemKeeper.the_row InlineCrew.the_row
    (copied 1 g.row.R) Routes.the_row Ticket.the_row unit _ _ _ _ keeper_moves crew_moves c.type_bounds.send-R
    routes_move))

-- and they may share it
pub serve_words-status-requires-sync-C-Shared : goal.serve_words-status-requires-sync-C-Shared
serve_words-status-requires-sync-C-Shared g c κs within =
    param_sync 10 _ (arg_sync _ no _ (DeskMoves.the_sync (param 0 g.row.J) MemKeeper.the_row InlineCrew.the_row
    (copied 1 g.row.R) Routes.the_row Ticket.the_row unit _ _ _ _ keeper_moves crew_moves c.type_bounds.send-R
    c.type_bounds.sync-R routes_are_shared))
