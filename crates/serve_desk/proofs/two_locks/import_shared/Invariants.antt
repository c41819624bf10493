use Rattle.std.proofs.Common.{Some}
use Rattle.serve_desk.proofs.two_locks.import_shared.Given as goal

-- the place that is held
abbrev pub ghosts-import_held : goal.ghosts-import_held
ghosts-import_held g a = record { from = Some a.first.place.count }
