use Rattle.std.proofs.Common.{◌≡◌, ◌≤◌, ◌-◌, ◌++◌, ℕ, List, length, take, drop, Some}
use Rattle.road_io.specs.Plans.{NeverFails}
use Rattle.road_digest.specs.Digests.{Took}
use Rattle.day_reading.proofs.first_bytes.take_front.Given as goal

abbrev pub invariant-loop-rest : goal.invariant-loop-rest
invariant-loop-rest g l = record {
  least : l.rest ≤ l.most;
  len : length l.buffer ≡ length l.initial.buffer;
  took : (bytes before : List ℕ) → g.S.Source.left l.initial.source ≡ Some bytes → Took l.initial.digester before
      → Took l.digester (before ++ take (l.most - l.rest) bytes)
      × (g.S.Source.left l.source ≡ Some (drop (l.most - l.rest) bytes));
  left : (bytes : List ℕ) → g.S.Source.left l.initial.source ≡ Some bytes →
      g.S.Source.left l.source ≡ Some (drop (l.most - l.rest) bytes);
  sure : NeverFails (g.S.Source.plan l.initial.source) → NeverFails (g.S.Source.plan l.source);
  same : g.S.Source.name l.source ≡ g.S.Source.name l.initial.source;
  stands : g.S.Source.faults l.source ≡ g.S.Source.faults l.initial.source;
}

abbrev pub decreases-loop-rest : goal.decreases-loop-rest
decreases-loop-rest g l = l.rest
