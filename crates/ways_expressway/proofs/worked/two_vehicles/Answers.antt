use Rattle.std.proofs.Common.{arith, refl, [], ◌∙◌, ◌≡◌}
use Rattle.ways_expressway.proofs.NoteSteps.{short_can}
use Rattle.ways_expressway.proofs.WorkedLaws.{two_cars, mean_of_means, no_cars, no_mean}
use Rattle.ways_expressway.proofs.worked.two_vehicles.Goals as goal

pub note-requires-2-clause-one : goal.note-requires-2-clause-one
note-requires-2-clause-one c =
    let one = c.in_ok-note.ensures.noted [] c.new-speeds.ensures.stands (short_can [] _ (omega arith)) in
    (_, one, short_can _ _ (omega arith))

pub note-requires-3-clause-one : goal.note-requires-3-clause-one
note-requires-3-clause-one c =
    let one = c.in_ok-note.ensures.noted [] c.new-speeds.ensures.stands (short_can [] _ (omega arith)) in
    let two = c.in_ok-note-2.ensures.noted _ one (short_can _ _ (omega arith)) in
    (_, two, short_can _ _ (omega arith))

pub returns : goal.returns
returns c =
    let one = c.in_ok-note.ensures.noted [] c.new-speeds.ensures.stands (short_can [] _ (omega arith)) in
    let two = c.in_ok-note-2.ensures.noted _ one (short_can _ _ (omega arith)) in
    let three = c.in_ok-note-3.ensures.noted _ two (short_can _ _ (omega arith)) in
    let first : c.new-speeds.result.minute ≡ 1 = c.new-speeds.ensures.minute in
    let second : c.note.new.self.minute ≡ 1 = c.in_ok-note.ensures.minute ∙ first in
    let third : c.note-2.new.self.minute ≡ 1 = c.in_ok-note-2.ensures.minute ∙ second in
    let at_two = c.roll.ensures.kept _ three in
    let at_seven = c.roll-2.ensures.kept _ at_two in
    rw (
      c.cars.ensures.exact _ at_two ∙ two_cars _ _ _ _ first second third c.roll.ensures.minute,
      c.lav.ensures.exact _ at_two ∙ mean_of_means _ _ _ _ first second third c.roll.ensures.minute,
      c.cars-2.ensures.exact _ at_seven ∙ no_cars _ _ _ _ first second third c.roll-2.ensures.minute,
      c.lav-2.ensures.exact _ at_seven ∙ no_mean _ _ _ _ first second third c.roll-2.ensures.minute,
    )
    refl
