use Rattle.std.proofs.Common.{rules}
use Rattle.ways_crews.proofs.Opening.{opens_kept_at}
use Rattle.ways_crews.proofs.board.CellBoard.new.Goals as goal

pub vacant-requires : goal.vacant-requires
vacant-requires c = opens_kept_at c.args.count c.as_slice.result.now (search rules)
