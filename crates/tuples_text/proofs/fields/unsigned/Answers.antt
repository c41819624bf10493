use Rattle.std.proofs.Common.{◌≡◌, ◌≤◌, length, true, Some, pos, arith, sym, ap, subst, refl, ◌∙◌, to_z, w64}
use Rattle.std.specs.Str.Parse.{digits_value, AllDigits}
use Rattle.std.proofs.lemmas.List.{take_all}
use Rattle.std.proofs.lemmas.Bool.{cond-true, cond-false, eqb-false}
use Rattle.std.proofs.lemmas.Int.{to_z_pos}
use Rattle.road_time.specs.Numbers.{are_digits}
use Rattle.tuples_text.proofs.TextLaws.{power_small, are_all, are_not, digit_more}
use Rattle.tuples_text.proofs.fields.unsigned.Goals as goal
use Rattle.tuples_text.proofs.fields.unsigned.Goals.{then-b-lt48-via-then-b-lt48}
use Rattle.tuples_text.proofs.fields.unsigned.Goals.{then-b-lt48-via-else-b-lt48+then-b-gt57}

pub returns : goal.returns
returns c =
    let xs = c.args.digits.now in
    let i = c.loop-b.b-index in
    let end : i ≡ length xs = omega arith in
    let whole = take_all i xs (omega arith) in
    let some : 1 ≤ length xs = omega (arith, eqb-false (length xs) 0 (sym c.is_empty.ensures ∙ c.if-is_empty.false)) in
    let are : are_digits 10 xs ≡ true =
    are_all xs (subst (AllDigits 10) whole c.loop-b.invariant.digits) some (omega arith) in
    let value = c.loop-b.invariant.value ∙ ap (digits_value 10) whole in
    let limit = power_small i (omega arith) in
    let z : to_z w64 c.loop-b.value ≡ pos c.loop-b.value = to_z_pos w64 _ (omega arith) in
    ap Some (z ∙ ap pos value) ∙ sym (cond-true _ _ _ are)

pub returns-then-b-lt48 : goal.returns-then-b-lt48
returns-then-b-lt48 c =
    let xs = c.args.digits.now in
    let i = c.loop-b.b-index in
    elim c.then-b-lt48.branch [
      | then-b-lt48-via-then-b-lt48 w ↦ sym
          (cond-false _ _ _ (are_not xs i _ c.loop-b-test.true refl (λ low high. omega (arith, w.if-b-lt48.true))))
      | then-b-lt48-via-else-b-lt48+then-b-gt57 w ↦ sym
          (cond-false _ _ _ (are_not xs i _ c.loop-b-test.true refl (λ low high. omega (arith, w.if-b-gt57.true))))
    ]

pub loop-b-preserved : goal.loop-b-preserved
loop-b-preserved c =
    let more = digit_more c.args.digits.now c.loop-b.b-index _ c.loop-b.value c.loop-b-test.true refl
    (omega (arith, c.if-b-lt48.false)) (omega (arith, c.if-b-gt57.false)) c.loop-b.invariant.value
    c.loop-b.invariant.digits c.loop-b.invariant.small in
    record {
      value = omega (arith, more.0, c.from.ensures);
      digits = more.1;
      small = omega (arith, more.2, c.from.ensures);
    }
