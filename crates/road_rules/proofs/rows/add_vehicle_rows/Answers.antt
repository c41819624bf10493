use Rattle.std.proofs.Common.{◌≡◌, ◌==◌, ap, ◌∙◌, rules, arith, map}
use Rattle.road_time.specs.Day.{ChargedToll, sum_of, charges_to}
use Rattle.road_rules.specs.Accounts.{shown_charge}
use Rattle.road_rules.proofs.SumParts.{sum_kept}
use Rattle.road_rules.proofs.rows.add_vehicle_rows.Goals as goal

pub add_rows-requires : goal.add_rows-requires
add_rows-requires c =
    let same : c.as_slice-2.result.now ≡ c.in_ok-own.own.items = search rules in
    let is : sum_of (map shown_charge c.as_slice-2.result.now) ≡ sum_of
    (charges_to c.args.vid (map shown_charge c.args.charges.now)) = ap (λ cs. sum_of (map shown_charge cs)) same
    ∙ ap sum_of c.in_ok-own.ensures in
    let few = sum_kept (λ (x : ChargedToll). x.vid == c.args.vid) (map shown_charge c.args.charges.now) in
    let all = c.requires in
    omega (arith, is, few, all)
