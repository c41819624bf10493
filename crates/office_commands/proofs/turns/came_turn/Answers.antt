use Rattle.std.proofs.Common.{◌+◌, arith}
use Rattle.road_io.specs.Cutter.{ahead, line_of, line_number}
use Rattle.office_commands.proofs.ListingLaws.{ready_there, ready_more}
use Rattle.office_commands.proofs.TurnLaws.{second_at_line, turn_came}
use Rattle.office_commands.proofs.turns.came_turn.Goals as goal

pub returns-in-Ok-clause-exact : goal.returns-in-Ok-clause-exact
returns-in-Ok-clause-exact g c = λ all listed run behind left coming some here wanted h.
    let spot = c.args.spot.now in
    let line = line_of c.args.cutter.now in
    let now = c.move_on.new in
    let at = second_at_line all listed run behind left coming spot.line some spot.entry line
    (ahead c.args.cutter.now (g.A.Source.left c.args.aside.now)) c.requires.at_line h in
    turn_came all listed run behind left coming spot.line some now.spot.line line at.0 now.spot.entry
    (line_of now.cutter) (ahead now.cutter (g.A.Source.left now.aside)) c.in-Ok.ensures.line at.3
    (c.in-Ok.ensures.stands at.0 at.1) here wanted

pub returns-in-Ok-clause-ready : goal.returns-in-Ok-clause-ready
returns-in-Ok-clause-ready g c =
    let there = ready_there _ _ _ c.requires.at_line c.requires.ready in
    let now = c.move_on.new in
    ready_more now.spot.entry now.cutter (line_number c.args.cutter.now + 1) now.spot.line
    (omega (arith, there.2, c.in-Ok.ensures.line)) c.in-Ok.ensures.ready
