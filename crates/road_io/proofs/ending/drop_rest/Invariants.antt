use Rattle.std.proofs.Common.{◌≤◌, ◌-◌}
use Rattle.road_io.specs.Within.{ReadsWithin}
use Rattle.road_io.proofs.ending.drop_rest.Given as goal

abbrev pub invariant-loop-room : goal.invariant-loop-room
invariant-loop-room g l = record {
  few : l.room ≤ 1048576;
  within : ReadsWithin (1048576 - l.room) (g.R.Read.remaining l.initial.reader) (g.R.Read.remaining l.reader);
}

abbrev pub decreases-loop-room : goal.decreases-loop-room
decreases-loop-room g l = l.room
