use Rattle.std.proofs.Common.{rules, ◌≡◌, [], ◌∷◌, ◌++◌, sym, subst}
use Rattle.std.proofs.lemmas.Bool.{false_from_ne_true}
use Rattle.std.specs.List.{list_any}
use Rattle.road_time.specs.declared.day.SpentRow.{SpentRow}
use Rattle.road_time.specs.History.{is_row, KeysDiffer}
use Rattle.day_past.proofs.AskedAmountLaws.{keys_on}
use Rattle.day_past.proofs.asked_amounts.join_amount.Goals as goal

pub returns-in-Ok-push-clause-keys : goal.returns-in-Ok-push-clause-keys
returns-in-Ok-push-clause-keys g c =
    let rows = c.args.rows.now.items in
    let row : SpentRow =
    record { day = c.args.day; vid = c.args.vid; xway = c.args.xway; tolls = c.in-Ok.tolls } in
    let now : c.push.new.self.items ≡ rows ++ row ∷ [] = search rules in
    subst KeysDiffer (sym now)
    (keys_on rows row c.requires.keys
    (false_from_ne_true (list_any (is_row c.args.day c.args.vid c.args.xway) rows) c.requires.new))
