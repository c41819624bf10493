use Rattle.std.proofs.Common.{rules, arith}
use Rattle.ways_crews.proofs.OtherSteps.{look_at}
use Rattle.ways_crews.proofs.moves.sees_stop.Goals as goal

pub load-requires : goal.load-requires
load-requires c =
    (search rules, (let w = c.requires.seat.1 in omega arith), look_at _ _ _ c.args.seat.now.me c.requires.count)
