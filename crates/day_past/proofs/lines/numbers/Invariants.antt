use Rattle.std.proofs.Common.{◌≡◌, ◌+◌, ◌++◌, length, take, option_copied}
use Rattle.std.specs.List.{filter_map}
use Rattle.road_time.specs.Numbers.{number_of, fields_of_text}
use Rattle.tuples_text.specs.Fields.{fields_after, odd_from}
use Rattle.day_past.proofs.lines.numbers.Given as goal

abbrev pub invariant-loop-i : goal.invariant-loop-i
invariant-loop-i l = record {
  room : length l.numbers ≡ 4;
  left : length (fields_after (option_copied l.rest)) + l.i ≡ 4;
  odd : odd_from 1 (fields_of_text l.fn.text) ≡ odd_from (l.i + 1) (fields_after (option_copied l.rest));
  read : filter_map (number_of 10) (fields_of_text l.fn.text) ≡ take l.i l.numbers ++ filter_map (number_of 10)
      (fields_after (option_copied l.rest));
}
