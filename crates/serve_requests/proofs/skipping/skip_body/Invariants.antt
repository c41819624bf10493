use Rattle.std.specs.Io.KnownBytes.{prepend_known}
use Rattle.serve_requests.proofs.skipping.skip_body.Given as goal

abbrev pub ghosts-skip_from : goal.ghosts-skip_from
ghosts-skip_from g a = record {
  total = a.count;
  bytes = prepend_known a.early.now (g.L.Link.left a.link.now);
  written = g.L.Link.written a.link.now;
  room = g.L.Link.room a.link.now;
  plan = g.L.Link.plan a.link.now;
  faults = g.L.Link.faults a.link.now;
}
