use Rattle.std.proofs.Common.{◌≡◌, drop}
use Rattle.serve_room.specs.Posts.{line_of}
use Rattle.serve_room.proofs.posts.line_of.Given as goal

-- only line ends stand before the place
abbrev pub invariant-loop-at : goal.invariant-loop-at
invariant-loop-at l = line_of l.held ≡ line_of (drop l.at l.held)
