use Rattle.std.proofs.Common.{◌≡◌, ◌++◌}
use Rattle.std.specs.List.{flat_map}
use Rattle.office_reports.specs.Charges.{charge_line, charges_text}
use Rattle.office_reports.proofs.charge_lines.charges_text.Given as goal

abbrev pub invariant-loop-payer : goal.invariant-loop-payer
invariant-loop-payer l = l.text.items ++ flat_map charge_line l.payer-iterator ≡ charges_text l.sums.entries
