use Rattle.std.proofs.Common.{◌≡◌, length, arith}
use Rattle.serve_room.proofs.PostLaws.{whole}
use Rattle.serve_room.proofs.posts.first_of.Goals as goal

pub returns-clause-first : goal.returns-clause-first
returns-clause-first c =
    let end : c.loop-at.at ≡ length c.args.seats.now = omega arith in
    whole c.args.who c.args.seats.now c.loop-at.at c.loop-at.first c.in-Some.found c.loop-at.invariant
    c.in-Some.is end
