use Rattle.std.proofs.Common.{◌≡◌, ◌+◌, take, get_or, arith, sym, ap, subst, refl, ◌∙◌}
use Rattle.std.specs.Str.Parse.{digits_value, AllDigits}
use Rattle.std.proofs.lemmas.List.{take-take, take_rest, get_or-take}
use Rattle.tuples_text.proofs.TextLaws.{digit_more}
use Rattle.tuples_text.proofs.FieldLaws.{field_at}
use Rattle.tuples_text.proofs.plain.digits.Goals as goal

pub returns-then-d-gt9 : goal.returns-then-d-gt9
returns-then-d-gt9 c =
    let xs = c.args.text.now in
    let i = c.loop-i.i in
    let heads : c.in_ok-head.head.now ≡ take 11 xs = c.in_ok-head.ensures.cases.0 in
    let same = ap (take i) heads ∙ take-take i 11 xs (omega arith) in
    let byte = sym (get_or-take 11 xs i 0 c.loop-i-test.true) ∙ ap (λ l. get_or l i 0) (sym heads)
    ∙ c.if-b-ne44.false in
    rw (take_rest xs (i + 1))
    (field_at xs i c.loop-i.value (omega arith) (omega arith) (omega (arith, c.in_ok-head.ensures.cases.2))
    (subst (AllDigits 10) same c.loop-i.invariant.digits) byte
    (c.loop-i.invariant.value ∙ ap (digits_value 10) same))

pub loop-i-preserved : goal.loop-i-preserved
loop-i-preserved c =
    let is = c.digit_or_more-d.ensures c.if-d-gt9.false in
    let more = digit_more c.in_ok-head.head.now c.loop-i.i _ c.loop-i.value (omega arith) refl
    (omega (arith, is)) (omega (arith, is, c.if-d-gt9.false)) c.loop-i.invariant.value
    c.loop-i.invariant.digits c.loop-i.invariant.small in
    record {
      value = omega (arith, more.0, is);
      digits = more.1;
      small = omega (arith, more.2, is);
    }
