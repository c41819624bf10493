use Rattle.std.proofs.Common.{◌≡◌, ◌≤◌, ◌-◌, length, take}
use Rattle.std.specs.Io.KnownBytes.{Appends}
use Rattle.road_io.specs.Rooms.{Takes}
use Rattle.road_io.proofs.link.send_all.Given as goal

abbrev pub invariant-loop-at : goal.invariant-loop-at
invariant-loop-at g l = record {
  inside : l.at ≤ length l.bytes;
  still : g.L.Link.faults l.link ≡ g.L.Link.faults l.initial.link;
  written : Appends (g.L.Link.written l.initial.link) (g.L.Link.written l.link) (take l.at l.bytes);
  took : Takes (g.L.Link.room l.initial.link) (g.L.Link.room l.link) l.at;
  unread : g.L.Link.left l.link ≡ g.L.Link.left l.initial.link;
  planned : g.L.Link.plan l.link ≡ g.L.Link.plan l.initial.link;
}

abbrev pub decreases-loop-at : goal.decreases-loop-at
decreases-loop-at g l = length l.bytes - l.at
