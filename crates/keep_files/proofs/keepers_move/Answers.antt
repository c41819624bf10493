use denote.Exit.{no}
use denote.Param.Send.{param_send, arg_send}
use Rattle.keep_files.proofs.Moves.{keeper_moves}
use Rattle.keep_files.proofs.keepers_move.Goals as goal

-- the keeper in a file may move
pub can_move-requires-send-T : goal.can_move-requires-send-T
can_move-requires-send-T c κs = param_send _ _ (arg_send _ no _ keeper_moves)
