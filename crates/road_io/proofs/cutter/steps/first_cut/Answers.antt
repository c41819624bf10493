use Rattle.std.proofs.Common.{get_or}
use Rattle.std.proofs.lemmas.Bool.{eqb-true}
use Rattle.road_io.proofs.LineLaws.{found_cut, absent_long, absent_short}
use Rattle.road_io.proofs.cutter.steps.first_cut.Goals as goal

pub returns-in-Some : goal.returns-in-Some
returns-in-Some c =
    let w = c.window.result.now in
    let at = c.in-Some.at in
    let found = c.in-Some.ensures in
    found_cut c.args.bytes.now w at c.window.ensures found.0.high found.0.before (eqb-true (get_or w at 0) 10 found.1)

pub returns-then-bytes-gt200 : goal.returns-then-bytes-gt200
returns-then-bytes-gt200 c =
    absent_long c.args.bytes.now c.window.result.now c.window.ensures c.in-None.ensures c.if-bytes-gt200.true

pub returns-else-bytes-gt200 : goal.returns-else-bytes-gt200
returns-else-bytes-gt200 c = (
  c.if-bytes-gt200.false,
  absent_short c.args.bytes.now c.window.result.now c.window.ensures c.in-None.ensures
      c.if-bytes-gt200.false,
)
