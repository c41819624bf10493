use Rattle.std.proofs.Common.{◌≡◌, take}
use Rattle.std.specs.List.{filter}
use Rattle.road_rules.specs.Halts.{is_about}
use Rattle.road_rules.proofs.blocked.halts_about.Given as goal

abbrev pub invariant-loop-halt : goal.invariant-loop-halt
invariant-loop-halt l = l.some.items ≡ filter (is_about l.start l.stretch) (take l.halt-index l.halts)
