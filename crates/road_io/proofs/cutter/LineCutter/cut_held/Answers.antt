use Rattle.std.proofs.Common.{◌+◌, ◌-◌, ◌≤◌, drop, arith}
use Rattle.std.specs.List.{slice_range}
use Rattle.std.proofs.lemmas.List.{length-take}
use Rattle.road_io.specs.Cutter.{held}
use Rattle.road_io.proofs.LineLaws.{line_taken, taken_of, range_split}
use Rattle.road_io.proofs.cutter.LineCutter.cut_held.Goals as goal

pub returns-in-Line-clause-cuts : goal.returns-in-Line-clause-cuts
returns-in-Line-clause-cuts c = λ left.
    let s = c.args.self.now in
    let law = c.in-Line.ensures in
    line_taken c.deref.result.now s.buf.items s.start s.end c.in-Line.count left c.deref.ensures.value law.1 law.2

pub returns-in-Line-clause-taken : goal.returns-in-Line-clause-taken
returns-in-Line-clause-taken c = λ _ left.
    let s = c.args.self.now in
    let next = s.start + c.in-Line.count + 1 in
    let inside = c.in-Line.ensures.1 in
    let end : next ≤ s.end = omega (arith, length-take (s.end - s.start) (drop s.start c.deref.result.now)) in
    taken_of (held s) (slice_range s.buf.items s.start next) (slice_range s.buf.items next s.end) left
    (range_split s.buf.items s.start next s.end (omega arith) end)
