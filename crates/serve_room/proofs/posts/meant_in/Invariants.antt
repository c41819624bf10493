use Rattle.std.proofs.Common.{◌≡◌, ◌≤◌, ◌+◌, drop}
use Rattle.serve_room.specs.Posts.{meant_in}
use Rattle.serve_room.proofs.posts.meant_in.Given as goal

-- those below the place are counted, and no more than sit there
abbrev pub invariant-loop-at : goal.invariant-loop-at
invariant-loop-at l =
    (l.count ≤ l.at) × (l.count + meant_in l.who (drop l.at l.seats) ≡ meant_in l.who l.seats)
