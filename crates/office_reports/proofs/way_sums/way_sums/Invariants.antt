use Rattle.std.proofs.Common.{◌≡◌, ◌<◌, ℕ, get_or, ◌*◌, ◌^◌, ◌≤◌, length, take}
use Rattle.office_reports.specs.Statements.{sum_on}
use Rattle.office_reports.proofs.way_sums.way_sums.Given as goal

abbrev pub invariant-loop-row : goal.invariant-loop-row
invariant-loop-row l = record {
  sums : (x : ℕ) → x < 256 → get_or l.sums x 0 ≡ sum_on (take l.row-index l.rows) x;
  size : length l.sums ≡ 256;
  bound : (x : ℕ) → x < 256 → get_or l.sums x 0 ≤ l.row-index * 2 ^ 64;
}
