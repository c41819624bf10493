use Rattle.std.proofs.Common.{rules, arith}
use Rattle.ways_crews.proofs.OtherSteps.{add_at}
use Rattle.ways_crews.proofs.moves.ring.Goals as goal

pub fetch_add-requires : goal.fetch_add-requires
fetch_add-requires c = (
  search rules,
  (let w = c.requires.seat.1 in omega arith),
  add_at c.args.count _ _ 1 1 c.args.seat.now.me
      c.requires.count.0 (omega arith),
)
