use Rattle.std.proofs.Common.{◌≡◌, take, drop, arith, sym, ap, ◌∙◌}
use Rattle.std.specs.Int.{w64, from_le_bytes}
use Rattle.tuples_text.proofs.FieldLaws.{unused_is}
use Rattle.tuples_text.proofs.plain.is_unused.Goals as goal

pub returns : goal.returns
returns c = λ _.
    let xs = c.args.text.now in
    let front : c.in-Some.front.now ≡ take 8 xs = c.in-Some.ensures.cases.0 in
    let rest : c.in-Some.rest.now ≡ drop 8 xs = c.in-Some.ensures.cases.1 in
    let back : c.in-Some-split_first_chunk.back.now ≡ take 8 (drop 8 xs) = c.in-Some-split_first_chunk.ensures.cases.0
    ∙ ap (take 8) rest in
    unused_is xs c.if-text-ne17.false (λ i. omega (arith, c.type_inv.text i))
    (ap (from_le_bytes w64) (sym front) ∙ sym c.from_le_bytes-first.ensures ∙ c.if-first-ne-FRONT.false)
    (ap (from_le_bytes w64) (sym back) ∙ sym c.from_le_bytes-second.ensures ∙ c.if-second-ne-BACK.false)
    c.if-text-ne49.false
