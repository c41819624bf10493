use Rattle.std.proofs.Common.{◌≡◌, map, take}
use Rattle.road_time.specs.Day.{charges_to}
use Rattle.road_rules.specs.Accounts.{shown_charge}
use Rattle.road_rules.proofs.rows.charges_to.Given as goal

abbrev pub invariant-loop-charge : goal.invariant-loop-charge
invariant-loop-charge l =
    map shown_charge l.own.items ≡ charges_to l.vid (map shown_charge (take l.charge-index l.charges))
