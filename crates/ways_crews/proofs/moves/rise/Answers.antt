use Rattle.std.proofs.Common.{rules, arith}
use Rattle.ways_crews.proofs.OtherSteps.{sub_at}
use Rattle.ways_crews.proofs.moves.rise.Goals as goal

pub fetch_sub-requires : goal.fetch_sub-requires
fetch_sub-requires c = (
  search rules,
  (let w = c.requires.seat.1 in omega arith),
  sub_at c.args.count _ _ 2 1 c.args.seat.now.me
      c.requires.count.0 (omega arith),
)
