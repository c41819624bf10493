use Rattle.std.proofs.Common.{◌≡◌, take}
use Rattle.office_commands.specs.Differences.{differences_text}
use Rattle.office_commands.proofs.difference.differences_text.Given as goal

abbrev pub invariant-loop-difference : goal.invariant-loop-difference
invariant-loop-difference l = l.text.items ≡ differences_text (take l.difference-index l.differences)
