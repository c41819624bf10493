use Rattle.std.proofs.Common.{◌+◌, ◌≤◌, ◌++◌, ◌∷◌, [], map, Ok, Err, sym, subst, ap, ◌∙◌, arith, length-append}
use Rattle.road_time.specs.declared.tariff.TheConstants.{GREATEST_TOLL}
use Rattle.day_floor.specs.Operations.{charge_of}
use Rattle.day_floor.specs.declared.settler.Settler.{Settler}
use Rattle.day_floor.specs.Answers.{history_of, IsSaid}
use Rattle.day_floor.specs.SettlingBooks.{CanSettle, book_after, charges_in}
use Rattle.road_io.specs.Levels.{Level}
use Rattle.day_floor.specs.SettlingRuns.{InRun, SettlesSlot}
use Rattle.day_floor.proofs.SettlingBookLaws.{can_settle, made_few, found_few}
use Rattle.day_floor.proofs.SettlingRunLaws.{first_slot, waits_more, run_more, run_few}
use Rattle.day_floor.proofs.StopLaws.{run_stops}
use Rattle.day_floor.proofs.settler.Settler.settle_next.Goals as goal

pub settle_slot-requires-clause-told : goal.settle_slot-requires-clause-told
settle_slot-requires-clause-told g c =
    let r = c.requires in
    let here = first_slot r.0 c.args.slots.now.items c.pop_front.new.self.items c.in-Some.slot
    (r.1 ++ r.2) r.3 r.4 c.in-Some.ensures.items r.8.slots_are in
    subst (λ t. CanSettle t.due c.args.self.now.book) (sym here.0)
    (can_settle r.0 c.args.self.now.book (r.1 ++ r.2) r.7.book r.3)

pub settle_slot-requires-clause-few : goal.settle_slot-requires-clause-few
settle_slot-requires-clause-few g c =
    let r = c.requires in
    let made = made_few r.0 c.args.self.now.book (r.1 ++ r.2) r.7.book in
    let few = r.8.few in
    omega (arith, made, few)

pub settle_slot-requires-clause-toll : goal.settle_slot-requires-clause-toll
settle_slot-requires-clause-toll g c =
    let r = c.requires in
    let here = first_slot r.0 c.args.slots.now.items c.pop_front.new.self.items c.in-Some.slot
    (r.1 ++ r.2) r.3 r.4 c.in-Some.ensures.items r.8.slots_are in
    subst (λ t. t.found.toll ≤ GREATEST_TOLL) (sym here.0) (found_few r.0 r.8.few_tolls (r.1 ++ r.2, r.3))

pub settle_slot-requires-clause-count : goal.settle_slot-requires-clause-count
settle_slot-requires-clause-count g c =
    let r = c.requires in
    let size = length-append r.1 r.2 in
    let few = r.8.few in
    let count = run_few r.0 c.args.number (history_of (g.K.Keeper.told c.args.keeper.now)) c.args.self.now r.1 r.2 r.5
    (g.O.Sink.written c.args.sink.now, g.O.Sink.room c.args.sink.now) r.6 (g.K.Keeper.plan c.args.keeper.now) r.7
    (omega (arith, size, few)) in
    omega (arith, count)

pub returns-in-Err-clause-err : goal.returns-in-Err-clause-err
returns-in-Err-clause-err g c = λ finding before run x rest old plan h waits.
    let here = first_slot finding c.args.slots.now.items c.pop_front.new.self.items c.in-Some.slot
    (before ++ run) x rest c.in-Some.ensures.items waits.slots_are in
    let says = c.in-Err.ensures.says in
    let history = history_of (g.K.Keeper.told c.args.keeper.now) in
    let s = c.args.self.now in
    let q = c.settle_slot.new.self.printer in
    let now : Level = (g.O.Sink.written c.args.sink.now, g.O.Sink.room c.args.sink.now) in
    let now' : Level = (g.O.Sink.written c.settle_slot.new.sink, g.O.Sink.room c.settle_slot.new.sink) in
    let left = g.K.Keeper.plan c.args.keeper.now in
    let left' = g.K.Keeper.plan c.settle_slot.new.keeper in
    run_stops finding c.args.number history c.in-Err.fault s q before run x old now now' plan left left' says.0 h
    (subst (λ t. IsSaid history c.args.number t.due t.found s.book says.0) here.0 says.1)
    (subst (λ t. SettlesSlot {T = Unit {0}} (Err c.in-Err.fault) t.due s.printer q now now' left left' says.0) here.0
    says.2)

pub returns-clause-ok : goal.returns-clause-ok
returns-clause-ok g c = λ finding before run x rest old plan h waits.
    let here = first_slot finding c.args.slots.now.items c.pop_front.new.self.items c.in-Some.slot
    (before ++ run) x rest c.in-Some.ensures.items waits.slots_are in
    let done = c.in_default-settle_slot.ensures in
    let says = done.says in
    let history = history_of (g.K.Keeper.told c.args.keeper.now) in
    let s = c.args.self.now in
    let t = c.settle_slot.new.self in
    let s' : Settler = record { book = t.book; printer = t.printer; charges = t.charges; settled = t.settled + 1 } in
    let now : Level = (g.O.Sink.written c.args.sink.now, g.O.Sink.room c.args.sink.now) in
    let now' : Level = (g.O.Sink.written c.settle_slot.new.sink, g.O.Sink.room c.settle_slot.new.sink) in
    let left = g.K.Keeper.plan c.args.keeper.now in
    let left' = g.K.Keeper.plan c.settle_slot.new.keeper in (
      subst (λ k. InRun s' finding c.args.number (history_of k) before (run ++ x ∷ []) old now' plan left')
          (sym done.same)
          (run_more finding c.args.number history s s' before run x old now now' plan left left' says.0 h
          (ap (λ n. n + 1) done.settled)
          (done.booked ∙ ap (λ u. book_after u.due u.found.toll s.book) here.0)
          (done.listed ∙ ap (λ u. map charge_of s.charges.items ++ charges_in u.due s.book) here.0)
          (subst (λ u. IsSaid history c.args.number u.due u.found s.book says.0) here.0 says.1)
          (subst (λ u. SettlesSlot {T = Unit {0}} (Ok tt) u.due s.printer t.printer now now' left left' says.0) here.0
          says.2)),
      waits_more finding c.args.slots.now.items c.pop_front.new.self.items c.in-Some.slot before run x rest
          c.in-Some.ensures.items waits,
    )
