use Rattle.std.proofs.Common.{◌≡◌, take}
use Rattle.road_time.specs.Text.{lines_text}
use Rattle.tuples_traffic.proofs.generating.lines_of_tuples.Given as goal

abbrev pub invariant-loop-tuple : goal.invariant-loop-tuple
invariant-loop-tuple l = l.text.items ≡ lines_text (take l.tuple-index l.tuples)
