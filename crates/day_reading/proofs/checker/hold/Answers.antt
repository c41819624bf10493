use Rattle.std.proofs.Common.{◌∙◌, ◌-◌, ◌++◌, length, take, ap}
use Rattle.day_reading.proofs.LineLaws.{held_more}
use Rattle.day_reading.proofs.checker.hold.Goals as goal

pub returns : goal.returns
returns c = λ text is.
    let held = c.args.line.now.items in
    let bytes = c.args.bytes.now in
    let room = c.saturating_sub-room.ensures ∙ ap (λ xs. 201 - length xs) c.as_slice.ensures.value in
    c.in_ok-extend_from_slice.ensures.items
    ∙ ap (λ ys. held ++ ys) (c.first.ensures ∙ ap (λ n. take n bytes) room) ∙ held_more text bytes held is
