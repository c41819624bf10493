use Rattle.std.proofs.Common.{◌∙◌, length, ap, arith}
use Rattle.day_reading.proofs.TallyLaws.{one_more, no_more}
use Rattle.day_reading.proofs.tally.counting.name.Goals as goal

pub returns-then-as_slice-ge-MOST_NAMED : goal.returns-then-as_slice-ge-MOST_NAMED
returns-then-as_slice-ge-MOST_NAMED c = λ all is.
    no_more all c.args.refusal c.args.named.now.items is
    (omega (arith, c.if-as_slice-ge-MOST_NAMED.true, ap length c.as_slice.ensures.value))

pub returns : goal.returns
returns c = λ all is.
    c.in_ok-push.ensures.items
    ∙ one_more all c.args.refusal c.args.named.now.items is
    (omega (arith, c.if-as_slice-ge-MOST_NAMED.false, ap length c.as_slice.ensures.value))
