use Rattle.std.proofs.Common.{◌≡◌, take}
use Rattle.std.specs.List.{flat_map}
use Rattle.office_reports.specs.Statements.{amount_line}
use Rattle.office_reports.proofs.vehicle_lines.amounts_text.Given as goal

abbrev pub invariant-loop-row : goal.invariant-loop-row
invariant-loop-row l = l.text.items ≡ flat_map amount_line (take l.row-index l.rows)
