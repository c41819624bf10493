use Rattle.serve_board.proofs.RuleLaws.{looks}
use Rattle.serve_board.proofs.reader.BoardReader.balance.Goals as goal

pub enter_as-requires : goal.enter_as-requires
enter_as-requires c x = looks _ _ x
