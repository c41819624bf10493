use Rattle.std.proofs.Common.{◌≡◌, ◌-◌, ◌≤◌, ℕ, List, Some, length, take}
use Rattle.std.specs.Io.KnownBytes.{Keeps, prepend_known}
use Rattle.road_io.specs.Plans.{NeverFails}
use Rattle.road_io.specs.Portions.{UpTo}
use Rattle.serve_requests.specs.Fronts.{HeldSoon}
use Rattle.serve_requests.proofs.fronts.reading.read_front.Given as goal

abbrev pub invariant-loop-held : goal.invariant-loop-held
invariant-loop-held g l = record {
  size : length l.buffer ≡ 8192;
  fields : length l.headers ≡ 64;
  inside : l.held ≤ 8192;
  ahead : Keeps (g.L.Link.left l.initial.link) (prepend_known (take l.held l.buffer) (g.L.Link.left l.link));
  unwritten : g.L.Link.written l.link ≡ g.L.Link.written l.initial.link;
  room : g.L.Link.room l.link ≡ g.L.Link.room l.initial.link;
  sure : NeverFails (g.L.Link.plan l.initial.link) → NeverFails (g.L.Link.plan l.link);
  later : g.L.Link.faults l.initial.link ≤ g.L.Link.faults l.link;
  most_kept : g.L.Link.most l.link ≡ g.L.Link.most l.initial.link;
  soon : (bytes : List ℕ) (most : ℕ) → g.L.Link.left l.initial.link ≡ Some bytes
      → g.L.Link.most l.initial.link ≡ UpTo most → HeldSoon most bytes l.held;
}

abbrev pub decreases-loop-held : goal.decreases-loop-held
decreases-loop-held g l = 8192 - l.held
