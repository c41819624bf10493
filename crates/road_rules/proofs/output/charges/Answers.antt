use Rattle.std.proofs.Common.{◌≡◌, ◌≤◌, length, arith, ap, map}
use Rattle.road_time.specs.Day.{rules as rules_of, sum_of, total_by}
use Rattle.road_time.proofs.BoundLaws.{rules_few, total_few}
use Rattle.road_rules.specs.Accounts.{shown_charge}
use Rattle.road_rules.proofs.output.charges.Goals as goal

pub returns-clause-few : goal.returns-clause-few
returns-clause-few c =
    let finding = rules_of c.args.tuples.now c.args.tariffs.now in
    let few = total_few finding (rules_few c.args.tuples.now c.args.tariffs.now) c.args.tuples.now in
    let is : sum_of (map shown_charge c.in_ok-output.output.charges.items) ≡ total_by finding c.args.tuples.now =
    ap sum_of c.in_ok-output.ensures.charges in
    let lines : length c.args.tuples.now ≤ 16000000 = c.requires.fit.lines in
    omega (arith, few, is, lines)
