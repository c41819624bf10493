use Rattle.std.proofs.Common.{◌≡◌, ◌-◌, length, get_or, slice_set, ap, rules, arith, ◌∙◌}
use Rattle.std.specs.VecDeque.{deque_len}
use Rattle.std.proofs.lemmas.Option.{slice_get-get_or}
use Rattle.day_floor.specs.declared.due_slot.Slot.{Slot}
use Rattle.day_floor.specs.declared.due_slot.Due.TheVariants.{Nothing}
use Rattle.day_floor.proofs.Filled.{filled}
use Rattle.day_floor.proofs.slots.fill_one.Goals as goal

pub returns-clause-filled : goal.returns-clause-filled
returns-clause-filled c = λ found before rest are long fresh at.
    let slots = c.args.slots.now.items in
    let i = c.args.finding.position - c.args.settled in
    let held : deque_len c.args.slots.now ≡ length slots = search rules in
    let none : Slot = record { due = Nothing; found = c.said.result } in
    let was = slice_get-get_or slots i none (omega (arith, held, c.requires.low, c.requires.high)) in
    let at_one = c.fill.ensures.filled (get_or slots i none) was in
    at_one ∙ (ap (λ f. slice_set slots i (record { due = (get_or slots i none).due; found = f })) c.said.ensures
    ∙ filled slots c.args.settled c.args.finding (get_or slots i none) found before rest c.requires.low was are long
    fresh at)
