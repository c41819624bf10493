use Rattle.std.proofs.Common.{◌≡◌, ◌<◌, ◌≤◌, true}
use Rattle.serve_requests.proofs.body.drain.Given as goal

abbrev pub invariant-loop-body : goal.invariant-loop-body
invariant-loop-body g l = record {
  fewer : l.body.left ≤ l.initial.body.left;
  same : l.body.link.ghost_name ≡ l.initial.body.link.ghost_name;
  failed : 0 < l.initial.body.faults → 0 < l.body.faults;
  cut : l.initial.body.cut ≡ true → l.body.cut ≡ true;
}

abbrev pub decreases-loop-body : goal.decreases-loop-body
decreases-loop-body g l = l.body.left
