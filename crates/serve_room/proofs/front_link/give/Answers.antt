use Rattle.std.proofs.Common.{arith}
use Rattle.road_io.proofs.PlanLaws.{moved}
use Rattle.serve_room.proofs.front_link.give.Goals as goal

pub returns-clause-bytes : goal.returns-clause-bytes
returns-clause-bytes c =
    moved c.args.front.now _ _ c.args.at.now c.min-count.result (omega arith) c.copy_from_slice.ensures.after
