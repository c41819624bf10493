use Rattle.std.proofs.Common.{◌≡◌, ◌==◌, true, get_or, arith}
use Rattle.std.proofs.lemmas.Bool.{eq-eqb}
use Rattle.std.proofs.Math.Facts.{Fits-of_lt}
use Rattle.road_time.specs.Day.{ChargedToll as DayCharge}
use Rattle.road_rules.specs.declared.account.StayCharge.{StayCharge}
use Rattle.road_rules.proofs.SumParts.{sum_yes, sum_few}
use Rattle.road_rules.proofs.rows.sum_on.Goals as goal

abbrev none : StayCharge
none = record { vid = 0; xway = 0; toll = 0 }

pub overflow_add-total : goal.overflow_add-total
overflow_add-total c =
    let i = c.loop-charge.charge-index in
    let cs = c.args.charges.now in
    let here = get_or cs i none in
    let p = λ (x : DayCharge). x.xway == c.args.xway in
    let meant : (here.xway == c.args.xway) ≡ true = eq-eqb here.xway c.args.xway c.if-charge-xway.true in
    let yes = sum_yes p cs i none c.loop-charge-test.true meant in
    let few = sum_few p cs i none c.loop-charge-test.true in
    let inv = c.loop-charge.invariant in
    let all = c.requires in
    Fits-of_lt (omega (arith, yes, few, inv, all))
