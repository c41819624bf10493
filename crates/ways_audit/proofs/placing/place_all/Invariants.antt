use Rattle.std.proofs.Common.{◌≡◌, ◌++◌, List, length, map}
use Rattle.ways_expressway.specs.declared.finding.Finding.{Finding}
use Rattle.ways_expressway.specs.Findings.{shown}
use Rattle.ways_audit.specs.Closing.{IsPlaced}
use Rattle.ways_audit.proofs.placing.place_all.Given as goal

abbrev pub invariant-loop-finding : goal.invariant-loop-finding
invariant-loop-finding l = record {
  many : length l.places.items ≡ l.fn.count;
  done : (done : List Finding) × (l.left ++ done ≡ l.findings) × IsPlaced l.places.items (map shown done);
}

abbrev pub decreases-loop-finding : goal.decreases-loop-finding
decreases-loop-finding l = length l.left
