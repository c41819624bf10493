use Rattle.std.specs.Io.KnownBytes.{prepend_known}
use Rattle.serve_desk.proofs.importing.import_only.Given as goal

abbrev pub ghosts-import_from : goal.ghosts-import_from
ghosts-import_from g a = record {
  total = a.count;
  bytes = prepend_known a.early.now (g.L.Link.left a.link.now);
  written = g.L.Link.written a.link.now;
  room = g.L.Link.room a.link.now;
  plan = g.L.Link.plan a.link.now;
  faults = g.L.Link.faults a.link.now;
}
