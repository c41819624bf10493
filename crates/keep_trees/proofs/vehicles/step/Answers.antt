use Rattle.sqlite_value.specs.declared.value.Value.TheVariants.{Int}
use Rattle.sqlite_value.specs.Order.{column}
use Rattle.std.proofs.Common.{rules, ◌≡◌, ◌<◌, ◌≤◌, ◌^◌, pos, subst, arith, MatchResult}
use Rattle.sqlite_pages.specs.Calls.{FailsFor}
use Rattle.sqlite_store.specs.Db.{trees_in}
use Rattle.keep_trees.specs.Pages.{our_trees}
use Rattle.keep_trees.specs.Walks.{StartsAt}
use Rattle.keep_trees.proofs.ResultLaws.{so_then, if_so, if_then}
use Rattle.sqlite_store.proofs.DbLemmas.{ordered}
use Rattle.keep_trees.specs.Finds.{pair_key}
use Rattle.keep_trees.proofs.Premise.{fitting, key_at, key_begins}
use Rattle.keep_trees.proofs.RowsLaws.{first, among, past, leaps}
use Rattle.keep_trees.proofs.WantedLaws.{key_columns, one_number, late_of, later_of, one_of, above_of, below_of}
use Rattle.keep_trees.proofs.WantedLaws.{ends_of}
use Rattle.keep_trees.proofs.WantedLaws.{leap_up, leap_off, is_under}
use Rattle.keep_trees.proofs.VehicleEntries.{later_day, all_later, other_vehicle, told_if, up_to_it, up_to_end}
use Rattle.keep_trees.proofs.VehicleEntries.{none_last}
use Rattle.keep_trees.proofs.VehicleTold.{is_under_it, leaps_to, ends_here, tells_of}
use Rattle.keep_trees.proofs.vehicles.step.Goals as goal

pub returns-in_err-day-clause-done : goal.returns-in_err-day-clause-done
returns-in_err-day-clause-done g c clean o has w =
    let f = first w in
    absurd (c.in_err-day.ensures.1 f.first.day (fitting has f.first (among w)).0
    (key_columns c.args.hands.now.entry f.first f.key).0)

pub returns-in_err-other-clause-done : goal.returns-in_err-other-clause-done
returns-in_err-other-clause-done g c clean o has w =
    let f = first w in
    absurd (c.in_err-other.ensures.1 f.first.vid (fitting has f.first (among w)).1
    (key_columns c.args.hands.now.entry f.first f.key).1)

pub returns-then-day-to-clause-done : goal.returns-then-day-to-clause-done
returns-then-day-to-clause-done g c clean o has w =
    let f = first w in
    let day = one_number _ _ _ c.in_ok-day.ensures (key_columns c.args.hands.now.entry f.first f.key).0 in
    let far = subst (λ d. c.args.to < d) day c.if-day-to.true in
    past w has.holds.office.sound.rows_rise (late_of c.args.vid c.args.from c.args.to f.first far)
    (λ s less. later_of c.args.vid c.args.from c.args.to f.first s far less)

pub returns-then-other-vid-clause-done : goal.returns-then-other-vid-clause-done
returns-then-other-vid-clause-done g c clean o has w =
    (c.take_amount.ensures.done clean) o has _ w
    (λ s at key.
    one_of c.args.vid c.args.from c.args.to s
    (subst (λ n. n ≡ c.args.vid) (one_number _ _ _ c.in_ok-other.ensures (key_columns c.args.hands.now.entry s key).1)
    c.if-other-vid.true)
    (subst (λ d. d ≤ c.args.to) (one_number _ _ _ c.in_ok-day.ensures (key_columns c.args.hands.now.entry s key).0)
    c.if-day-to.false))

pub returns-then-other-vid-2-clause-done : goal.returns-then-other-vid-2-clause-done
returns-then-other-vid-2-clause-done g c clean o has w =
    let size = g.P.Pages.size c.args.pages.now in
    let pages = g.P.Pages.pages c.args.pages.now in
    let f = first w in
    let entry = c.args.hands.now.entry in
    let day = one_number _ _ _ c.in_ok-day.ensures (key_columns entry f.first f.key).0 in
    let less = subst (λ n. n < c.args.vid)
    (one_number _ _ _ c.in_ok-other.ensures (key_columns entry f.first f.key).1) c.if-other-vid-2.true in
    let done =
    subst (λ d. MatchResult c.seek_pair.result
    (StartsAt (w.db.layouts 3) size pages (trees_in size our_trees pages 2)
    (pair_key d c.args.vid) c.seek_pair.new.hands.batch c.seek_pair.new.hands.entry)
    (FailsFor g.P.Pages c.args.pages.now c.seek_pair.new.pages ⊥)) day
    ((c.seek_pair.ensures.done clean) w.db (key_at has)) in
    so_then c.seek_pair.result _ _ _ done
    (λ found starts.
    leaps w (pair_key f.first.day c.args.vid) (ordered w.db 2) has.holds.office.sound.rows_rise
    (is_under c.args.vid entry f.first f.key less) (below_of c.args.vid c.args.from c.args.to f.first less)
    (λ s above. leap_up c.args.vid c.args.from c.args.to f.first s above)
    c.seek_pair.new.hands.batch c.seek_pair.new.hands.entry found starts)

pub returns-then-day-to-2-clause-done : goal.returns-then-day-to-2-clause-done
returns-then-day-to-2-clause-done g c clean o has w =
    let f = first w in
    let entry = c.args.hands.now.entry in
    let day = one_number _ _ _ c.in_ok-day.ensures (key_columns entry f.first f.key).0 in
    let above : c.args.vid < c.in_ok-other.other = omega (arith, c.if-other-vid.false, c.if-other-vid-2.false) in
    let more = subst (λ n. c.args.vid < n)
    (one_number _ _ _ c.in_ok-other.ensures (key_columns entry f.first f.key).1) above in
    let last = subst (λ d. d ≡ c.args.to) day c.if-day-to-2.true in
    past w has.holds.office.sound.rows_rise (above_of c.args.vid c.args.from c.args.to f.first more)
    (λ s less. ends_of c.args.vid c.args.from c.args.to f.first s last more less)

pub returns-clause-done : goal.returns-clause-done
returns-clause-done g c clean o has w =
    let size = g.P.Pages.size c.args.pages.now in
    let pages = g.P.Pages.pages c.args.pages.now in
    let f = first w in
    let entry = c.args.hands.now.entry in
    let day = one_number _ _ _ c.in_ok-day.ensures (key_columns entry f.first f.key).0 in
    let above : c.args.vid < c.in_ok-other.other = omega (arith, c.if-other-vid.false, c.if-other-vid-2.false) in
    let more = subst (λ n. c.args.vid < n)
    (one_number _ _ _ c.in_ok-other.ensures (key_columns entry f.first f.key).1) above in
    let done =
    subst (λ d. MatchResult c.leave_day.result
    (StartsAt (w.db.layouts 3) size pages (trees_in size our_trees pages 2)
    (pair_key d (2 ^ 32)) c.leave_day.new.hands.batch c.leave_day.new.hands.entry)
    (FailsFor g.P.Pages c.args.pages.now c.leave_day.new.pages ⊥)) day
    ((c.leave_day.ensures.done clean) w.db (key_at has)) in
    so_then c.leave_day.result _ _ _ done
    (λ found starts.
    leaps w (pair_key f.first.day (2 ^ 32)) (ordered w.db 2) has.holds.office.sound.rows_rise
    (is_under (2 ^ 32) entry f.first f.key (fitting has f.first (among w)).1)
    (above_of c.args.vid c.args.from c.args.to f.first more)
    (λ s less. leap_off c.args.vid c.args.from c.args.to f.first s more less)
    c.leave_day.new.hands.batch c.leave_day.new.hands.entry found starts)

pub returns-then-day-to-clause-told : goal.returns-then-day-to-clause-told
returns-then-day-to-clause-told g c clean are w =
    let entry = c.args.hands.now.entry in
    let day = c.in_ok-day.day in
    let other = c.in_ok-other.other in
    let vid = c.args.vid in
    let from = c.args.from in
    let to = c.args.to in
    ends_here w (later_day vid from to entry day c.in_ok-day.ensures c.if-day-to.true)
    (λ e behind. all_later vid from to entry day other c.in_ok-day.ensures c.in_ok-other.ensures e behind
    c.if-day-to.true)

pub returns-then-other-vid-clause-told : goal.returns-then-other-vid-clause-told
returns-then-other-vid-clause-told g c clean are w =
    let entry = c.args.hands.now.entry in
    let day = c.in_ok-day.day in
    let other = c.in_ok-other.other in
    let vid = c.args.vid in
    let from = c.args.from in
    let to = c.args.to in
    let its = subst (λ n. column entry 1 ≡ Int (pos n)) c.if-other-vid.true c.in_ok-other.ensures in
    if_then c.take_amount.result _ _ (c.take_amount.ensures.told clean w.db are w.ahead)
    (λ found so.
    let up = c.if-day-to.false in
    tells_of w so.0 c.take_amount.new.rows.items c.take_amount.new.hands.batch c.take_amount.new.hands.entry found so.1
    (told_if vid from to entry so.0.day so.1.day its
    (subst (λ d. d ≤ to) (one_number _ _ _ c.in_ok-day.ensures so.1.day) up)) so.2 so.3)

pub returns-then-other-vid-2-clause-told : goal.returns-then-other-vid-2-clause-told
returns-then-other-vid-2-clause-told g c clean are w =
    let entry = c.args.hands.now.entry in
    let day = c.in_ok-day.day in
    let other = c.in_ok-other.other in
    let vid = c.args.vid in
    let from = c.args.from in
    let to = c.args.to in
    let less : other < vid = c.if-other-vid-2.true in
    if_so c.seek_pair.result _ _ _ (c.seek_pair.ensures.done clean w.db (key_begins are))
    (λ found starts.
    leaps_to w (pair_key day vid) (is_under_it entry day other vid c.in_ok-day.ensures c.in_ok-other.ensures less)
    (other_vehicle vid from to entry other c.in_ok-other.ensures (λ e. omega (arith, e, less)))
    (λ e behind. up_to_it vid from to entry day other c.in_ok-day.ensures c.in_ok-other.ensures e behind)
    c.seek_pair.new.hands.batch c.seek_pair.new.hands.entry found starts)

pub returns-then-day-to-2-clause-told : goal.returns-then-day-to-2-clause-told
returns-then-day-to-2-clause-told g c clean are w =
    let entry = c.args.hands.now.entry in
    let day = c.in_ok-day.day in
    let other = c.in_ok-other.other in
    let vid = c.args.vid in
    let from = c.args.from in
    let to = c.args.to in
    let more : vid < other = omega (arith, c.if-other-vid.false, c.if-other-vid-2.false) in
    ends_here w (other_vehicle vid from to entry other c.in_ok-other.ensures (λ e. omega (arith, e, more)))
    (λ e behind. none_last vid from to entry day other c.in_ok-day.ensures c.in_ok-other.ensures e behind more
    c.if-day-to-2.true)

pub returns-clause-told : goal.returns-clause-told
returns-clause-told g c clean are w =
    let entry = c.args.hands.now.entry in
    let day = c.in_ok-day.day in
    let other = c.in_ok-other.other in
    let vid = c.args.vid in
    let from = c.args.from in
    let to = c.args.to in
    let more : vid < other = omega (arith, c.if-other-vid.false, c.if-other-vid-2.false) in
    let fits : other < 2 ^ 32 = search rules in
    if_so c.leave_day.result _ _ _ (c.leave_day.ensures.done clean w.db (key_begins are))
    (λ found starts.
    leaps_to w (pair_key day (2 ^ 32))
    (is_under_it entry day other (2 ^ 32) c.in_ok-day.ensures c.in_ok-other.ensures fits)
    (other_vehicle vid from to entry other c.in_ok-other.ensures (λ e. omega (arith, e, more)))
    (λ e behind. up_to_end vid from to entry day other c.in_ok-day.ensures c.in_ok-other.ensures e behind more)
    c.leave_day.new.hands.batch c.leave_day.new.hands.entry found starts)
