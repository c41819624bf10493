use Rattle.std.proofs.Common.{◌≡◌, ◌++◌, map, take}
use Rattle.std.specs.List.{filter}
use Rattle.road_rules.specs.Accounts.{shown_charge}
use Rattle.road_rules.specs.RowParts.{row_on, has_tolls}
use Rattle.road_rules.proofs.rows.add_rows.Given as goal

abbrev pub invariant-loop-xway : goal.invariant-loop-xway
invariant-loop-xway l =
    l.rows.items ≡ l.initial.rows.items ++ filter has_tolls
    (map (row_on l.day l.vid (map shown_charge l.own)) (take l.xway-index l.xways))
