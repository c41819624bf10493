use Rattle.std.proofs.Common.{◌≡◌, ◌-◌}
use Rattle.std.proofs.lemmas.List.Elements.{recursion_from_All}
use Rattle.road_time.specs.Fits.{IsValid}
use Rattle.road_time.specs.History.{paid}
use Rattle.keep_office.specs.Office.{rows_between}
use Rattle.keep_office.proofs.HistoryLaws.{keys_law}
use Rattle.keep_office.proofs.CallLaws.{reads_ok}
use Rattle.day_past.proofs.HistoryLaws.{by_history, by_none, by_asked}
use Rattle.day_past.proofs.asked.history_for.Goals as goal

pub returns-then-not-asks_any-clause-told : goal.returns-then-not-asks_any-clause-told
returns-then-not-asks_any-clause-told g c = λ o told tariffs.
    by_none c.args.number (paid c.new.result.items) (paid o.rows) c.args.tuples.now tariffs
    (cc (c.asks_any.ensures, c.if-not-asks_any.true))

pub asked_amounts-requires-clause-valid : goal.asked_amounts-requires-clause-valid
asked_amounts-requires-clause-valid g c = recursion_from_All IsValid c.args.tuples.now c.requires.fit.valid

pub returns-in-Ok-clause-told : goal.returns-in-Ok-clause-told
returns-in-Ok-clause-told g c = λ o told tariffs.
    by_asked c.args.number o.rows c.in-Ok.rows.items (c.in-Ok.ensures.right o told) c.args.tuples.now
    c.in-Ok.ensures.asked tariffs

pub returns-in-Ok-rows-clause-told : goal.returns-in-Ok-rows-clause-told
returns-in-Ok-rows-clause-told g c = λ o told tariffs.
    let number = c.args.number in
    let before = g.K.Keeper.told c.args.keeper.now in
    let after = g.K.Keeper.told c.rows.new.self in
    let rows = c.in-Ok-rows.rows in
    let exact : rows.items ≡ rows_between o (number - 69) (number - 1) =
    reads_ok before after c.rows.result (λ p rows. rows.items ≡ rows_between p (number - 69) (number - 1)) o rows
    c.rows.ensures.state told c.in-Ok-rows.is in
    by_history number o rows.items exact c.requires.low c.args.tuples.now c.requires.fit tariffs

pub returns-in-Ok-rows-clause-keys : goal.returns-in-Ok-rows-clause-keys
returns-in-Ok-rows-clause-keys g c = keys_law c.in-Ok-rows.rows.items c.in-Ok-rows.ensures.rise
