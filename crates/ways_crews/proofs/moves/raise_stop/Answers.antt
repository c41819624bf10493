use Rattle.std.proofs.Common.{rules, arith}
use Rattle.ways_crews.proofs.OtherSteps.{stop_at}
use Rattle.ways_crews.proofs.moves.raise_stop.Goals as goal

pub store-requires : goal.store-requires
store-requires c =
    (search rules, (let w = c.requires.seat.1 in omega arith), stop_at _ _ _ c.args.seat.now.me c.requires.count)
