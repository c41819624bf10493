use Rattle.std.proofs.Common.{◌≤◌, length, sym, ◌∙◌, arith}
use Rattle.serve_room.proofs.FrontLaws.{behind}
use Rattle.serve_room.proofs.front_link.finish_behind.Goals as goal

pub returns-clause-dropped : goal.returns-clause-dropped
returns-clause-dropped g c = λ bytes is.
    let over : length c.args.front.now ≤ c.args.at = omega arith in
    let left = g.L.Link.left in
    let before = behind (left c.args.link.now) c.args.front.now c.args.at over in
    let now = behind (left c.finish.new.self) c.args.front.now c.args.at over in
    let (count, few, dropped) = c.finish.ensures.dropped bytes (sym before ∙ is) in
    (count, few, now ∙ dropped)
