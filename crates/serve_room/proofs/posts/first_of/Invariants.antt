use Rattle.serve_room.specs.Posts.{IsFirstBelow}
use Rattle.serve_room.proofs.posts.first_of.Given as goal

-- the first of those below the place is known
abbrev pub invariant-loop-at : goal.invariant-loop-at
invariant-loop-at l = IsFirstBelow l.who l.seats l.at l.first
