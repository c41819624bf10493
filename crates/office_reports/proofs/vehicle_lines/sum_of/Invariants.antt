use Rattle.std.proofs.Common.{◌≡◌, ◌*◌, ◌^◌, ◌≤◌, take}
use Rattle.keep_office.specs.Office.{sum_of_rows}
use Rattle.office_reports.proofs.vehicle_lines.sum_of.Given as goal

abbrev pub invariant-loop-row : goal.invariant-loop-row
invariant-loop-row l = record {
  sum : l.sum ≡ sum_of_rows (take l.row-index l.rows);
  bound : l.sum ≤ l.row-index * 2 ^ 64;
}
