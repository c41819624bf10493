use Rattle.std.proofs.Common.{rules, arith}
use Rattle.ways_crews.proofs.Asked.{give_back_at}
use Rattle.ways_crews.proofs.moves.give_back.Goals as goal

pub store-requires : goal.store-requires
store-requires c = (
  search rules,
  (let w = c.requires.seat.1 in omega arith),
  give_back_at _ _ _ _ _ _ _ _ c.requires.cell
      c.exchange.ensures.3 c.requires.result.1 c.requires.result.2,
)
