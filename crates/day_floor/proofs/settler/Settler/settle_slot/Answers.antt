use Rattle.std.proofs.Common.{◌≡◌, ◌-◌, ◌∷◌, [], Ok, Err, refl, sym, ap, subst, rules}
use Rattle.road_time.specs.declared.road.Notice.TheVariants.{Balance as BalanceNotice, Spent as SpentNotice}
use Rattle.day_floor.specs.declared.due_slot.Due.{Due}
use Rattle.day_floor.specs.declared.due_slot.Due.TheVariants.{Report, Balance, Spent}
use Rattle.day_floor.specs.Answers.{history_of, IsPaid, IsSaid, told_notices}
use Rattle.road_io.specs.Levels.{Level}
use Rattle.day_floor.specs.SettlingRuns.{SettlesSlot}
use Rattle.day_floor.proofs.PrintLaws.{says_none}
use Rattle.day_floor.proofs.AskLaws.{passes_none}
use Rattle.day_floor.proofs.SlotLaws.{slot_said, slot_refused}
use Rattle.day_floor.proofs.AnswerLaws.{some_paid}
use Rattle.day_floor.proofs.settler.Settler.settle_slot.Goals as goal

pub returns-in-Nothing-clause-says : goal.returns-in-Nothing-clause-says
returns-in-Nothing-clause-says g c =
    let a = c.args in
    let p = a.self.now.printer in
    let w : Level = (g.O.Sink.written a.sink.now, g.O.Sink.room a.sink.now) in
    let plan = g.K.Keeper.plan a.keeper.now in
    let h = history_of (g.K.Keeper.told a.keeper.now) in (
      [],
      subst (λ due. IsSaid h a.number due a.slot.found a.self.now.book []) (sym c.in-Nothing.is) refl,
      subst (λ due. SettlesSlot {T = Unit {0}} (Ok tt) due p p w w plan plan []) (sym c.in-Nothing.is)
          (says_none p w, passes_none plan),
    )

pub returns-in-Report-clause-says : goal.returns-in-Report-clause-says
returns-in-Report-clause-says g c =
    let s = c.in-Report in
    let a = c.args in
    let p = a.self.now.printer in
    let q = c.settle_report.new.self.printer in
    let w : Level = (g.O.Sink.written a.sink.now, g.O.Sink.room a.sink.now) in
    let v : Level = (g.O.Sink.written c.settle_report.new.sink, g.O.Sink.room c.settle_report.new.sink) in
    let plan = g.K.Keeper.plan a.keeper.now in
    let h = history_of (g.K.Keeper.told a.keeper.now) in
    let ns = told_notices s.told s.time s.vid a.slot.found in
    let due : Due = Report s.time s.vid s.charge s.told in
    let done = c.settle_report.ensures in (
      ns,
      subst (λ d. IsSaid h a.number d a.slot.found a.self.now.book ns) (sym s.is) refl,
      subst (λ d. SettlesSlot c.settle_report.result d p q w v plan plan ns) (sym s.is)
          (slot_said c.settle_report.result due p q w v plan plan ns done.other (passes_none plan) done.says),
    )

pub returns-in-Balance-clause-says : goal.returns-in-Balance-clause-says
returns-in-Balance-clause-says g c =
    let s = c.in-Balance in
    let a = c.args in
    let p = a.self.now.printer in
    let q = c.put.new.self in
    let w : Level = (g.O.Sink.written a.sink.now, g.O.Sink.room a.sink.now) in
    let v : Level = (g.O.Sink.written c.put.new.sink, g.O.Sink.room c.put.new.sink) in
    let plan = g.K.Keeper.plan a.keeper.now in
    let h = history_of (g.K.Keeper.told a.keeper.now) in
    let ns = BalanceNotice s.time s.qid c.balance-amount.result ∷ [] in
    let due : Due = Balance s.time s.vid s.qid in (
      ns,
      subst (λ d. IsSaid h a.number d a.slot.found a.self.now.book ns) (sym s.is)
          (ap (λ n. BalanceNotice s.time s.qid n ∷ []) c.balance-amount.ensures.account),
      subst (λ d. SettlesSlot c.put.result d p q w v plan plan ns) (sym s.is)
          (slot_said c.put.result due p q w v plan plan ns c.put.ensures.other (passes_none plan) c.put.ensures.says),
    )

pub returns-in-Ok-clause-says : goal.returns-in-Ok-clause-says
returns-in-Ok-clause-says g c =
    let s = c.in-Spent in
    let a = c.args in
    let p = a.self.now.printer in
    let q = c.put-in-Ok.new.self in
    let w : Level = (g.O.Sink.written a.sink.now, g.O.Sink.room a.sink.now) in
    let v : Level = (g.O.Sink.written c.put-in-Ok.new.sink, g.O.Sink.room c.put-in-Ok.new.sink) in
    let plan = g.K.Keeper.plan a.keeper.now in
    let left = g.K.Keeper.plan c.paid_on.new.keeper in
    let h = history_of (g.K.Keeper.told a.keeper.now) in
    let amount = c.in-Ok.amount in
    let ns = SpentNotice s.time s.qid amount ∷ [] in
    let due : Due = Spent s.time s.vid s.qid s.xway s.day in
    let day : c.saturating_sub.result ≡ a.number - s.day = search rules in
    let paid = subst (λ n. IsPaid h n s.vid s.xway amount) day c.in-Ok.ensures.paid in
    let put = c.put-in-Ok in (
      ns,
      subst (λ d. IsSaid h a.number d a.slot.found a.self.now.book ns) (sym s.is) (amount, paid, refl),
      subst (λ d. SettlesSlot put.result d p q w v plan left ns) (sym s.is)
          (slot_said put.result due p q w v plan left ns put.ensures.other c.in-Ok.ensures.once put.ensures.says),
    )

pub returns-in-Err-clause-says : goal.returns-in-Err-clause-says
returns-in-Err-clause-says g c =
    let s = c.in-Spent in
    let a = c.args in
    let p = a.self.now.printer in
    let w : Level = (g.O.Sink.written a.sink.now, g.O.Sink.room a.sink.now) in
    let plan = g.K.Keeper.plan a.keeper.now in
    let left = g.K.Keeper.plan c.paid_on.new.keeper in
    let h = history_of (g.K.Keeper.told a.keeper.now) in
    let amount = some_paid h (a.number - s.day) s.vid s.xway in
    let ns = SpentNotice s.time s.qid amount.0 ∷ [] in
    let due : Due = Spent s.time s.vid s.qid s.xway s.day in (
      ns,
      subst (λ d. IsSaid h a.number d a.slot.found a.self.now.book ns) (sym s.is) (amount.0, amount.1, refl),
      subst (λ d. SettlesSlot {T = Unit {0}} (Err c.in-Err.fault) d p p w w plan left ns) (sym s.is)
          (slot_refused c.in-Err.fault due p p w plan left ns refl c.in-Err.ensures.once),
    )
