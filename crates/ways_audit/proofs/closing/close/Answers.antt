use Rattle.std.proofs.Common.{◌≤◌, take, get_or, sym, ap, subst, ◌∙◌, arith}
use Rattle.std.proofs.lemmas.List.{take_all, take_more, length-take-le}
use Rattle.road_time.specs.declared.tariff.TheConstants.{GREATEST_TOLL}
use Rattle.road_time.specs.Day.{given, notices_by}
use Rattle.road_time.specs.Sights.{moments}
use Rattle.ways_audit.specs.Payments.{amounts_of}
use Rattle.day_floor.specs.declared.due_slot.Slot.{Slot}
use Rattle.day_floor.specs.SettlingBooks.{CanSettle}
use Rattle.day_floor.proofs.AnswerLaws.{notices_exact}
use Rattle.day_floor.proofs.SettlingBookLaws.{book_none, can_settle, made_few, found_few}
use Rattle.ways_audit.proofs.RoutingLaws.{no_tuple}
use Rattle.ways_audit.proofs.ClosingLaws.{AreClosed, slot_here, closed_more}
use Rattle.ways_audit.proofs.closing.close.Goals as goal

pub loop-at-init : goal.loop-at-init
loop-at-init c =
    λ found placed few. record {
      book_is = book_none (given found) c.new-book.result c.new-book.ensures;
      said =
          c.in_ok-notices.ensures.items;
    }

pub close_slot-requires-clause-told : goal.close_slot-requires-clause-told
close_slot-requires-clause-told c =
    let ts = c.args.tuples.now in
    let i = c.loop-at.at in
    let (found, placed, few) = c.requires.found in
    let here =
    slot_here found ts c.args.tracked.now c.args.places.now i c.slot_for-slot.result c.requires.tracked placed
    c.requires.places c.loop-at-test.true c.slot_for-slot.ensures in
    let closed = c.loop-at.invariant found placed few in
    subst (λ (s : Slot). CanSettle s.due c.loop-at.book) (sym here)
    (can_settle (given found) c.loop-at.book (take i ts) closed.book_is (get_or ts i no_tuple))

pub close_slot-requires-clause-few : goal.close_slot-requires-clause-few
close_slot-requires-clause-few c =
    let ts = c.args.tuples.now in
    let i = c.loop-at.at in
    let (found, placed, few) = c.requires.found in
    let closed = c.loop-at.invariant found placed few in
    let made = made_few (given found) c.loop-at.book (take i ts) closed.book_is in
    let size = length-take-le i ts (omega (arith, c.loop-at-test.true)) in
    omega (arith, made, size, c.loop-at-test.true, c.requires.few)

pub close_slot-requires-clause-toll : goal.close_slot-requires-clause-toll
close_slot-requires-clause-toll c =
    let ts = c.args.tuples.now in
    let i = c.loop-at.at in
    let (found, placed, few) = c.requires.found in
    let here =
    slot_here found ts c.args.tracked.now c.args.places.now i c.slot_for-slot.result c.requires.tracked placed
    c.requires.places c.loop-at-test.true c.slot_for-slot.ensures in
    subst (λ (s : Slot). s.found.toll ≤ GREATEST_TOLL) (sym here)
    (found_few (given found) few (take i ts, get_or ts i no_tuple))

pub loop-at-preserved : goal.loop-at-preserved
loop-at-preserved c = λ found placed few.
    let ts = c.args.tuples.now in
    let i = c.loop-at.at in
    let here =
    slot_here found ts c.args.tracked.now c.args.places.now i c.slot_for-slot.result c.requires.tracked placed
    c.requires.places c.loop-at-test.true c.slot_for-slot.ensures in
    let (said, says, more) = c.in_ok-close_slot.ensures.said in
    subst (λ day. AreClosed found c.args.number (amounts_of c.args.payments.now.amounts.entries) day
    c.close_slot.new.book c.close_slot.new.notices.items) (sym (take_more ts i no_tuple c.loop-at-test.true))
    (closed_more found c.args.number (amounts_of c.args.payments.now.amounts.entries) (take i ts)
    (get_or ts i no_tuple) c.loop-at.book c.close_slot.new.book c.loop-at.notices.items said
    c.close_slot.new.notices.items c.slot_for-slot.result
    (c.loop-at.invariant found placed few) here c.in_ok-close_slot.ensures.booked says more)

pub returns : goal.returns
returns c = λ found placed few.
    let ts = c.args.tuples.now in
    notices_exact (given found) c.args.number (amounts_of c.args.payments.now.amounts.entries)
    (moments (take c.loop-at.at ts)) c.loop-at.notices.items (c.loop-at.invariant found placed few).said
    ∙ ap (λ day. notices_by (given found) c.args.number (amounts_of c.args.payments.now.amounts.entries) (moments day))
    (take_all c.loop-at.at ts c.loop-at-test.false)
