use Rattle.std.proofs.Common.{◌≡◌, get_or}
use Rattle.office_reports.specs.Statements.{ways_text}
use Rattle.office_reports.proofs.day_lines.ways_text.Given as goal

abbrev pub invariant-loop-xway : goal.invariant-loop-xway
invariant-loop-xway l = l.text.items ≡ ways_text (λ x. get_or l.sums x 0) l.xway
