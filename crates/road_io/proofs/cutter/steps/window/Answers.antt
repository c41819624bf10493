use Rattle.std.proofs.Common.{arith, sym}
use Rattle.std.proofs.lemmas.List.{length-take-le, take_all}
use Rattle.road_io.proofs.cutter.steps.window.Goals as goal

pub slice_bounds-result-end : goal.slice_bounds-result-end
slice_bounds-result-end c = sym (length-take-le 201 c.args.bytes.now (omega arith))

pub returns-else-bytes-gt201 : goal.returns-else-bytes-gt201
returns-else-bytes-gt201 c = sym (take_all 201 c.args.bytes.now (omega arith))
