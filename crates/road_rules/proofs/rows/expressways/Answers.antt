use Rattle.std.proofs.Common.{◌≡◌, ap, sym, ◌∙◌, rules, get_or}
use Rattle.std.specs.Ordering.{nat_cmp}
use Rattle.std.specs.BTreeSet.{insert_key}
use Rattle.road_rules.specs.declared.account.StayCharge.{StayCharge}
use Rattle.road_rules.proofs.SumParts.{order_more}
use Rattle.road_rules.proofs.rows.expressways.Goals as goal

abbrev none : StayCharge
none = record { vid = 0; xway = 0; toll = 0 }

pub loop-charge-preserved : goal.loop-charge-preserved
loop-charge-preserved c =
    let i = c.loop-charge.charge-index in
    let here = get_or c.args.charges.now i none in
    let keys : c.insert.new.self.keys ≡ insert_key nat_cmp c.loop-charge.xways.keys here.xway = search rules in
    keys ∙ ap (λ ks. insert_key nat_cmp ks here.xway) c.loop-charge.invariant
    ∙ sym (order_more (λ x. x.xway) c.args.charges.now i none c.loop-charge-test.true)
