use Rattle.std.proofs.Common.{◌≡◌, ◌≤◌, ◌+◌, ◌*◌, length, drop, map}
use Rattle.tuples_text.specs.Ends.{line_end, field_number}
use Rattle.tuples_text.proofs.tuple_lines.put_fields.Given as goal

abbrev pub invariant-loop-left : goal.invariant-loop-left
invariant-loop-left l = record {
  few : l.left ≤ 14;
  room : 21 * l.left + 1 ≤ l.at;
  inside : l.at ≤ length l.line;
  written : drop l.at l.line ≡ line_end (drop l.left (map field_number l.fields));
}

abbrev pub decreases-loop-left : goal.decreases-loop-left
decreases-loop-left l = l.left
