use Rattle.std.proofs.Common.{rules, arith}
use Rattle.ways_crews.proofs.OtherSteps.{set_at_more}
use Rattle.ways_crews.proofs.moves.set_waits.Goals as goal

pub store-requires : goal.store-requires
store-requires c = (
  search rules,
  (let w = c.requires.seat.1 in omega arith),
  set_at_more c.args.count _ _ 3 c.args.waits
      c.args.seat.now.me c.requires.count.0 (omega arith),
)
