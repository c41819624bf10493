use denote.Exit.{no}
use denote.Param.Send.{param_send, arg_send}
use Rattle.keep_files.proofs.Moves.{keeper_moves}
use Rattle.toll_serve.proofs.main.Goals as goal

-- the keeper may move between threads
pub serve_in_threads-status-requires-send-K : goal.serve_in_threads-status-requires-send-K
serve_in_threads-status-requires-send-K g c κs = param_send _ _ (arg_send _ no _ keeper_moves)
