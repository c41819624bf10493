use Rattle.std.proofs.Common.{◌≡◌, ◌+◌, drop}
use Rattle.ways_audit.proofs.SecondLaws.{of_second}
use Rattle.ways_audit.proofs.seconds.same_second.Given as goal

abbrev pub invariant-loop-notice : goal.invariant-loop-notice
invariant-loop-notice l = record {
  many : l.same ≡ l.notice-index;
  so_far : of_second l.second l.notices ≡ l.notice-index + of_second l.second (drop l.notice-index l.notices);
}
