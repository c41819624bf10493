use Rattle.std.proofs.Common.{◌<◌, ◌≤◌, subst}
use Rattle.keep_trees.proofs.Premise.{fitting}
use Rattle.keep_trees.proofs.ResultLaws.{if_then}
use Rattle.keep_trees.proofs.RowsTold.{is_done, tells}
use Rattle.keep_trees.proofs.RowsLaws.{first, among, past}
use Rattle.keep_trees.proofs.WantedLaws.{key_columns, one_number, late, later_still, one_within}
use Rattle.keep_trees.proofs.gathering.step.Goals as goal

pub returns-in_err-day-clause-done : goal.returns-in_err-day-clause-done
returns-in_err-day-clause-done g c clean o has w =
    let f = first w in
    absurd (c.in_err-day.ensures.1 f.first.day (fitting has f.first (among w)).0
    (key_columns c.args.hands.now.entry f.first f.key).0)

pub returns-then-day-to-clause-done : goal.returns-then-day-to-clause-done
returns-then-day-to-clause-done g c clean o has w =
    let f = first w in
    let day = one_number _ _ _ c.in_ok-day.ensures (key_columns c.args.hands.now.entry f.first f.key).0 in
    let far = subst (λ d. c.args.to < d) day c.if-day-to.true in
    past w has.holds.office.sound.rows_rise (late c.args.from c.args.to f.first far)
    (λ s less. later_still c.args.from c.args.to f.first s far less)

pub returns-clause-done : goal.returns-clause-done
returns-clause-done g c clean o has w =
    (c.take_amount.ensures.done clean) o has _ w
    (λ s at key.
    one_within c.args.from c.args.to s
    (subst (λ d. d ≤ c.args.to) (one_number _ _ _ c.in_ok-day.ensures (key_columns c.args.hands.now.entry s key).0)
    c.if-day-to.false))

pub returns-then-day-to-clause-told : goal.returns-then-day-to-clause-told
returns-then-day-to-clause-told g c clean are w = is_done w c.in_ok-day.day c.in_ok-day.ensures c.if-day-to.true

pub returns-clause-told : goal.returns-clause-told
returns-clause-told g c clean are w =
    if_then c.take_amount.result _ _ (c.take_amount.ensures.told clean w.db are w.ahead)
    (λ found so.
    let day = one_number _ _ _ c.in_ok-day.ensures so.1.day in
    let up = c.if-day-to.false in
    tells w so.0 c.take_amount.new.rows.items c.take_amount.new.hands.batch c.take_amount.new.hands.entry found so.1
    (subst (λ d. d ≤ c.args.to) day up) so.2 so.3)
