use Rattle.std.proofs.Common.{◌≡◌, take}
use Rattle.std.specs.List.{fold}
use Rattle.office_reports.specs.Charges.{with_amount}
use Rattle.office_reports.proofs.charge_sums.add_rows.Given as goal

abbrev pub invariant-loop-row : goal.invariant-loop-row
invariant-loop-row l = l.sums.entries ≡ fold with_amount l.fn.sums.entries (take l.row-index l.rows)
