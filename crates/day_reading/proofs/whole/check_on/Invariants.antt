use Rattle.std.proofs.Common.{◌≡◌, ◌-◌, ◌*◌, ◌^◌, ◌≤◌, ℕ, List, length}
use Rattle.road_time.specs.declared.day.Limits.{Limits}
use Rattle.road_io.specs.Plans.{NeverFails}
use Rattle.road_io.specs.Within.{ReadsWithin}
use Rattle.day_reading.specs.Checking.{ChecksOn}
use Rattle.day_reading.proofs.whole.check_on.Given as goal

abbrev pub invariant-loop-pieces : goal.invariant-loop-pieces
invariant-loop-pieces g l = record {
  few : l.pieces ≤ 2 ^ 64 - 1;
  len : length l.buffer ≡ 65536;
  checks : (limits : Limits) (late : ℕ) (bytes : List ℕ) →
      ChecksOn l.initial.checker limits late (g.S.Source.left l.initial.source) bytes →
      ChecksOn l.checker limits late (g.S.Source.left l.source) bytes;
  within : ReadsWithin (65536 * (2 ^ 64 - 1 - l.pieces)) (g.S.Source.left l.initial.source)
      (g.S.Source.left l.source);
  same : g.S.Source.name l.source ≡ g.S.Source.name l.initial.source;
  stands : g.S.Source.faults l.source ≡ g.S.Source.faults l.initial.source;
  still : NeverFails (g.S.Source.plan l.initial.source) → NeverFails (g.S.Source.plan l.source);
}

abbrev pub decreases-loop-pieces : goal.decreases-loop-pieces
decreases-loop-pieces g l = l.pieces
