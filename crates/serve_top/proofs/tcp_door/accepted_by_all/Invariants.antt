use Rattle.std.proofs.Common.{◌≡◌, take}
use Rattle.serve_top.specs.Doors.{accepted_in}
use Rattle.serve_top.specs.TcpDoors.{accepted_by}
use Rattle.serve_top.proofs.tcp_door.accepted_by_all.Given as goal

abbrev pub invariant-loop-ear : goal.invariant-loop-ear
invariant-loop-ear g l = l.accepted ≡ accepted_in accepted_by (take l.ear-index l.ears)
