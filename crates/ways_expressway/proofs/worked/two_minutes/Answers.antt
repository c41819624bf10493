use Rattle.std.proofs.Common.{arith, refl, [], ◌∙◌}
use Rattle.ways_expressway.proofs.NoteSteps.{short_can}
use Rattle.ways_expressway.proofs.WorkedLaws.{both_minutes, one_minute}
use Rattle.ways_expressway.proofs.worked.two_minutes.Goals as goal

pub note-requires-2-clause-one : goal.note-requires-2-clause-one
note-requires-2-clause-one c =
    let one = c.in_ok-note.ensures.noted [] c.new-speeds.ensures.stands (short_can [] _ (omega arith)) in
    (_, c.roll.ensures.kept _ one, short_can _ _ (omega arith))

pub returns : goal.returns
returns c =
    let one = c.in_ok-note.ensures.noted [] c.new-speeds.ensures.stands (short_can [] _ (omega arith)) in
    let two = c.in_ok-note-2.ensures.noted _ (c.roll.ensures.kept _ one) (short_can _ _ (omega arith)) in
    let sixth = c.lav-sixth.ensures.exact _ (c.roll-2.ensures.kept _ two)
    ∙ both_minutes _ _ _ c.new-speeds.ensures.minute c.roll.ensures.minute c.roll-2.ensures.minute in
    let seventh = c.lav-seventh.ensures.exact _ (c.roll-3.ensures.kept _ (c.roll-2.ensures.kept _ two))
    ∙ one_minute _ _ _ c.new-speeds.ensures.minute c.roll.ensures.minute c.roll-3.ensures.minute in
    rw (sixth, seventh) refl
