use Rattle.std.proofs.Common.{◌≡◌, take}
use Rattle.serve_top.specs.Doors.{accepted_in}
use Rattle.serve_top.proofs.counting.accepted_by_all.Given as goal

abbrev pub invariant-loop-ear : goal.invariant-loop-ear
invariant-loop-ear g l = l.accepted ≡ accepted_in g.N.Listener.accepted (take l.ear-index l.ears)
