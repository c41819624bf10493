use Rattle.std.proofs.Common.{◌≡◌, true, take}
use Rattle.std.specs.List.{list_all}
use Rattle.tuples_text.proofs.TextLaws.{is_inner}
use Rattle.tuples_text.proofs.fields.split_field.Given as goal

abbrev pub invariant-loop-at : goal.invariant-loop-at
invariant-loop-at l = list_all is_inner (take l.at l.text) ≡ true
