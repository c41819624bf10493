use Rattle.std.proofs.Common.{◌+◌, List, length, arith, ap, sym, subst, ◌∙◌}
use Rattle.std.proofs.lemmas.List.{length_push}
use Rattle.road_io.specs.Cutter.{ahead, line_of, line_number}
use Rattle.office_commands.specs.declared.difference.Difference.{Difference}
use Rattle.office_commands.specs.Turns.{ListsSecond}
use Rattle.office_commands.proofs.AsideLaws.{short}
use Rattle.office_commands.proofs.ListingLaws.{ready_there, ready_more}
use Rattle.office_commands.proofs.TurnLaws.{second_at_line, turn_over}
use Rattle.office_commands.proofs.turns.over_turn.Goals as goal

pub returns-in-Ok-tell_over-clause-exact : goal.returns-in-Ok-tell_over-clause-exact
returns-in-Ok-tell_over-clause-exact g c = λ all run behind left coming some here needless h.
    let spot = c.args.spot.now in
    let line = line_of c.args.cutter.now in
    let now = c.move_on.new in
    let listed = c.args.list.now.items in
    let after = ahead now.cutter (g.A.Source.left now.aside) in
    let at = second_at_line all listed run behind left coming spot.line some spot.entry line
    (ahead c.args.cutter.now (g.A.Source.left c.args.aside.now)) c.requires.at_line h in
    subst (λ (ds : List Difference). ListsSecond all ds run behind left coming now.spot.line now.spot.entry
    (line_of now.cutter) after) (sym c.in-Ok-tell_over.ensures.told)
    (turn_over all listed run behind left coming spot.line some now.spot.line line at.0 now.spot.entry
    (line_of now.cutter) after c.in-Ok.ensures.line at.3 (c.in-Ok.ensures.stands at.0 at.1) c.args.found
    c.requires.named here needless (short line at.2))

pub returns-in-Ok-tell_over-clause-counts : goal.returns-in-Ok-tell_over-clause-counts
returns-in-Ok-tell_over-clause-counts g c =
    (c.in-Ok.ensures.line, ap length c.in-Ok-tell_over.ensures.told ∙ length_push c.args.list.now.items _)

pub returns-in-Ok-tell_over-clause-ready : goal.returns-in-Ok-tell_over-clause-ready
returns-in-Ok-tell_over-clause-ready g c =
    let there = ready_there _ _ _ c.requires.at_line c.requires.ready in
    let now = c.move_on.new in
    ready_more now.spot.entry now.cutter (line_number c.args.cutter.now + 1) now.spot.line
    (omega (arith, there.2, c.in-Ok.ensures.line)) c.in-Ok.ensures.ready
