use Rattle.std.proofs.Common.{◌≡◌, ◌+◌, pos, map, drop, get_or, arith, sym, ap, ◌∙◌, to_z, of_z, w64, rules}
use Rattle.std.proofs.lemmas.List.{length-map}
use Rattle.road_time.specs.Form.{is_allowed}
use Rattle.tuples_text.specs.declared.tuples.Use.TheVariants.{From}
use Rattle.tuples_text.specs.Uses.{use_of}
use Rattle.tuples_text.proofs.UseLaws.{code_more, code_here, first_none}
use Rattle.tuples_text.proofs.tuples.first_out.Goals as goal

pub loop-i-preserved : goal.loop-i-preserved
loop-i-preserved c =
    let us = c.args.uses.now in
    let ns = c.args.numbers.now in
    let i = c.loop-i.i in
    let z = get_or ns (i + 1) (pos 0) in
    let whole : to_z w64 (of_z w64 z) ≡ z = search rules in
    c.loop-i.invariant ∙ code_more us ns i (From 0 0) (pos 0) c.told-uses c.told-numbers c.loop-i-test.true
    (ap (is_allowed (use_of (get_or us i (From 0 0)))) (sym whole) ∙ sym c.allows.ensures ∙ c.if-not-allows.false)

pub returns-then-not-allows : goal.returns-then-not-allows
returns-then-not-allows c =
    let us = c.args.uses.now in
    let ns = c.args.numbers.now in
    let i = c.loop-i.i in
    let z = get_or ns (i + 1) (pos 0) in
    let whole : to_z w64 (of_z w64 z) ≡ z = search rules in
    sym (c.loop-i.invariant ∙ code_here us ns i (From 0 0) (pos 0) c.told-uses c.told-numbers c.loop-i-test.true
    (ap (is_allowed (use_of (get_or us i (From 0 0)))) (sym whole) ∙ sym c.allows.ensures ∙ c.if-not-allows.true))

pub returns : goal.returns
returns c =
    sym (c.loop-i.invariant ∙ first_none (map use_of c.args.uses.now) (drop 1 c.args.numbers.now) c.loop-i.i
    (omega (arith, c.told-uses, length-map c.args.uses.now use_of)))
