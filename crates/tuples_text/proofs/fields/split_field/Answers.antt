use Rattle.std.proofs.Common.{◌+◌, ◌∷◌, take, sym, ap, refl, ◌∙◌}
use Rattle.std.specs.List.{list_all}
use Rattle.std.proofs.lemmas.List.{take_all, take_rest}
use Rattle.road_time.specs.Numbers.{fields_of_text}
use Rattle.tuples_text.proofs.TextLaws.{fields_cut, fields_none, inner_more, is_inner}
use Rattle.tuples_text.proofs.fields.split_field.Goals as goal

pub returns : goal.returns
returns c =
    let xs = c.args.text.now in
    let all = ap (list_all is_inner) (sym (take_all c.loop-at.at xs c.loop-at-test.false)) ∙ c.loop-at.invariant in
    fields_none xs all

pub returns-then-b-eq44 : goal.returns-then-b-eq44
returns-then-b-eq44 c =
    let xs = c.args.text.now in
    let i = c.loop-at.at in
    fields_cut xs i c.loop-at-test.true c.loop-at.invariant c.if-b-eq44.true
    ∙ ap (λ ys. take i xs ∷ fields_of_text ys) (sym (take_rest xs (i + 1)))

pub loop-at-preserved : goal.loop-at-preserved
loop-at-preserved c =
    inner_more c.args.text.now c.loop-at.at _ c.loop-at-test.true refl c.if-b-eq44.false c.loop-at.invariant
