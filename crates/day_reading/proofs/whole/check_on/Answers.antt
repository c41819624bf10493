use Rattle.std.proofs.Common.{◌≡◌, ◌∙◌, ◌+◌, ◌-◌, ◌*◌, ◌^◌, ◌≤◌, [], List, ℕ, Option, Some, length, subst, arith}
use Rattle.std.proofs.lemmas.Result.{IfOk-weaker}
use Rattle.day_reading.specs.Checking.{ChecksOn, most_checked}
use Rattle.day_reading.proofs.WholeLaws.{within_both}
use Rattle.day_reading.proofs.whole.check_on.Goals as goal

pub returns-in-Ok-false-clause-exact : goal.returns-in-Ok-false-clause-exact
returns-in-Ok-false-clause-exact g c = λ limits late bytes h.
    let on = c.in-Ok-false.ensures.checks limits late bytes (c.loop-pieces.invariant.checks limits late bytes h) in
    let end = on.1 c.in-Ok-false.field-0-test in
    IfOk-weaker c.tally_of.result _ _ (λ tally t. (t, end))
    (c.tally_of.ensures.exact limits late bytes
    (subst (λ (o : Option (List ℕ)). ChecksOn c.check_some.new.checker limits late o bytes) end on.0))

pub returns-in-Ok-false-clause-bounded : goal.returns-in-Ok-false-clause-bounded
returns-in-Ok-false-clause-bounded g c =
    let inv = c.loop-pieces.invariant in
    within_both _ _ _ (65536 * (2 ^ 64 - 1 - c.loop-pieces.pieces)) (length c.loop-pieces.buffer) most_checked inv.within
    c.check_some.ensures.bounded (omega (arith, inv.few, inv.len, c.loop-pieces-test.true))

pub returns-in-Err-clause-bounded : goal.returns-in-Err-clause-bounded
returns-in-Err-clause-bounded g c =
    let inv = c.loop-pieces.invariant in
    within_both _ _ _ (65536 * (2 ^ 64 - 1 - c.loop-pieces.pieces)) (length c.loop-pieces.buffer) most_checked inv.within
    c.check_some.ensures.bounded (omega (arith, inv.few, inv.len, c.loop-pieces-test.true))

pub loop-pieces-preserved : goal.loop-pieces-preserved
loop-pieces-preserved g c =
    let inv = c.loop-pieces.invariant in
    record {
      few = omega (arith, inv.few);
      len = c.check_some.ensures.len ∙ inv.len;
      checks = λ limits late bytes h. (c.in-Ok-true.ensures.checks limits late bytes
          (inv.checks limits late bytes h)).0;
      within = within_both _ _ _ (65536 * (2 ^ 64 - 1 - c.loop-pieces.pieces)) (length c.loop-pieces.buffer)
          (65536 * (2 ^ 64 - 1 - (c.loop-pieces.pieces - 1))) inv.within c.check_some.ensures.bounded
          (omega (arith, inv.few, inv.len, c.loop-pieces-test.true));
      same = c.check_some.ensures.same ∙ inv.same;
      stands = c.check_some.ensures.source.still (λ e. let no : ⊥ = cc in no) ∙ inv.stands;
      still = λ never. c.check_some.ensures.still (inv.still never);
    }
