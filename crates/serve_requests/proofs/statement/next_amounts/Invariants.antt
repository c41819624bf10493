use Rattle.std.proofs.Common.{◌≡◌, string_bytes, take}
use Rattle.std.specs.List.{flat_map}
use Rattle.serve_requests.specs.Lists.{next_amount}
use Rattle.serve_requests.proofs.statement.next_amounts.Given as goal

abbrev pub invariant-loop-row : goal.invariant-loop-row
invariant-loop-row l = string_bytes l.text ≡ flat_map next_amount (take l.row-index l.rows)
