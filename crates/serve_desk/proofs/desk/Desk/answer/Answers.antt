use Rattle.std.proofs.Common.{refl, sym, subst, ap, ◌∙◌}
use Rattle.std.specs.Io.KnownBytes.{prepend_known}
use Rattle.serve_desk.specs.Answers.{wire_of}
use Rattle.serve_desk.specs.Imports.{state_of}
use Rattle.serve_desk.specs.Desk.{AnswersKept}
use Rattle.serve_desk.proofs.desk.Desk.answer.Goals as goal

pub returns-in-Day-clause-answers : goal.returns-in-Day-clause-answers
returns-in-Day-clause-answers g c = λ o told.
    let s = c.args.self.now in
    let l = c.args.link.now in
    let a = c.answer_day in
    subst (λ asked. AnswersKept g.K.Keeper.refuses g.C.Crew.exact asked s.limits o
    (state_of (g.K.Keeper.told s.keeper) (g.K.Keeper.faults s.keeper) s.writer.posted)
    (state_of (g.K.Keeper.told a.new.keeper) (g.K.Keeper.faults a.new.keeper) s.writer.posted)
    (wire_of (g.L.Link.left l) (g.L.Link.plan l) (g.L.Link.written l) (g.L.Link.room l))
    (wire_of (g.L.Link.left a.new.link) (g.L.Link.plan a.new.link) (g.L.Link.written a.new.link)
    (g.L.Link.room a.new.link)) a.result)
    (sym c.in-Day.is) ((a.ensures.told o told, refl, a.ensures.unread), a.ensures.sent o told)

pub returns-in-Spent-clause-answers : goal.returns-in-Spent-clause-answers
returns-in-Spent-clause-answers g c = λ o told.
    let s = c.args.self.now in
    let l = c.args.link.now in
    let a = c.answer_spent in
    subst (λ asked. AnswersKept g.K.Keeper.refuses g.C.Crew.exact asked s.limits o
    (state_of (g.K.Keeper.told s.keeper) (g.K.Keeper.faults s.keeper) s.writer.posted)
    (state_of (g.K.Keeper.told a.new.keeper) (g.K.Keeper.faults a.new.keeper) s.writer.posted)
    (wire_of (g.L.Link.left l) (g.L.Link.plan l) (g.L.Link.written l) (g.L.Link.room l))
    (wire_of (g.L.Link.left a.new.link) (g.L.Link.plan a.new.link) (g.L.Link.written a.new.link)
    (g.L.Link.room a.new.link)) a.result)
    (sym c.in-Spent.is) ((a.ensures.told o told, refl, a.ensures.unread), a.ensures.sent o told)

pub returns-in-Health-clause-answers : goal.returns-in-Health-clause-answers
returns-in-Health-clause-answers g c = λ o told.
    let s = c.args.self.now in
    let l = c.args.link.now in
    let a = c.answer_health in
    subst (λ asked. AnswersKept g.K.Keeper.refuses g.C.Crew.exact asked s.limits o
    (state_of (g.K.Keeper.told s.keeper) (g.K.Keeper.faults s.keeper) s.writer.posted)
    (state_of (g.K.Keeper.told a.new.keeper) (g.K.Keeper.faults a.new.keeper) s.writer.posted)
    (wire_of (g.L.Link.left l) (g.L.Link.plan l) (g.L.Link.written l) (g.L.Link.room l))
    (wire_of (g.L.Link.left a.new.link) (g.L.Link.plan a.new.link) (g.L.Link.written a.new.link)
    (g.L.Link.room a.new.link)) a.result)
    (sym c.in-Health.is) ((a.ensures.told o told, refl, a.ensures.unread), a.ensures.sent o told)

pub returns-in-Import-clause-answers : goal.returns-in-Import-clause-answers
returns-in-Import-clause-answers g c = λ o told.
    let s = c.args.self.now in
    let l = c.args.link.now in
    let a = c.answer_import in
    subst (λ asked. AnswersKept g.K.Keeper.refuses g.C.Crew.exact asked s.limits o
    (state_of (g.K.Keeper.told s.keeper) (g.K.Keeper.faults s.keeper) s.writer.posted)
    (state_of (g.K.Keeper.told a.new.keeper) (g.K.Keeper.faults a.new.keeper) a.new.writer.posted)
    (wire_of (g.L.Link.left l) (g.L.Link.plan l) (g.L.Link.written l) (g.L.Link.room l))
    (wire_of (g.L.Link.left a.new.link) (g.L.Link.plan a.new.link) (g.L.Link.written a.new.link)
    (g.L.Link.room a.new.link)) a.result)
    (sym c.in-Import.is)
    (λ all known. a.ensures.imports all o (ap (λ e. prepend_known e (g.L.Link.left l)) c.items.ensures ∙ known)
    told)

pub returns-in-Vehicle-clause-answers : goal.returns-in-Vehicle-clause-answers
returns-in-Vehicle-clause-answers g c = λ o told.
    let s = c.args.self.now in
    let l = c.args.link.now in
    let a = c.answer_vehicle in
    subst (λ asked. AnswersKept g.K.Keeper.refuses g.C.Crew.exact asked s.limits o
    (state_of (g.K.Keeper.told s.keeper) (g.K.Keeper.faults s.keeper) s.writer.posted)
    (state_of (g.K.Keeper.told a.new.keeper) (g.K.Keeper.faults a.new.keeper) s.writer.posted)
    (wire_of (g.L.Link.left l) (g.L.Link.plan l) (g.L.Link.written l) (g.L.Link.room l))
    (wire_of (g.L.Link.left a.new.link) (g.L.Link.plan a.new.link) (g.L.Link.written a.new.link)
    (g.L.Link.room a.new.link)) a.result)
    (sym c.in-Vehicle.is) ((a.ensures.told o told, refl, a.ensures.unread), a.ensures.sent o told)

pub returns-in-Days-clause-answers : goal.returns-in-Days-clause-answers
returns-in-Days-clause-answers g c = λ o told.
    let s = c.args.self.now in
    let l = c.args.link.now in
    let a = c.answer_days in
    subst (λ asked. AnswersKept g.K.Keeper.refuses g.C.Crew.exact asked s.limits o
    (state_of (g.K.Keeper.told s.keeper) (g.K.Keeper.faults s.keeper) s.writer.posted)
    (state_of (g.K.Keeper.told a.new.keeper) (g.K.Keeper.faults a.new.keeper) s.writer.posted)
    (wire_of (g.L.Link.left l) (g.L.Link.plan l) (g.L.Link.written l) (g.L.Link.room l))
    (wire_of (g.L.Link.left a.new.link) (g.L.Link.plan a.new.link) (g.L.Link.written a.new.link)
    (g.L.Link.room a.new.link)) a.result)
    (sym c.in-Days.is) ((a.ensures.told o told, refl, a.ensures.unread), a.ensures.sent o told)

pub returns-in-Page-clause-answers : goal.returns-in-Page-clause-answers
returns-in-Page-clause-answers g c = λ o told.
    let s = c.args.self.now in
    let l = c.args.link.now in
    let a = c.answer_page in
    subst (λ asked. AnswersKept g.K.Keeper.refuses g.C.Crew.exact asked s.limits o
    (state_of (g.K.Keeper.told s.keeper) (g.K.Keeper.faults s.keeper) s.writer.posted)
    (state_of (g.K.Keeper.told s.keeper) (g.K.Keeper.faults s.keeper) s.writer.posted)
    (wire_of (g.L.Link.left l) (g.L.Link.plan l) (g.L.Link.written l) (g.L.Link.room l))
    (wire_of (g.L.Link.left a.new.link) (g.L.Link.plan a.new.link) (g.L.Link.written a.new.link)
    (g.L.Link.room a.new.link)) a.result)
    (sym c.in-Page.is) ((told, refl, a.ensures.unread), refl, a.ensures.sent)

pub returns-in-Answers-clause-answers : goal.returns-in-Answers-clause-answers
returns-in-Answers-clause-answers g c = λ o told.
    let s = c.args.self.now in
    let l = c.args.link.now in
    let a = c.answer_notices in
    subst (λ asked. AnswersKept g.K.Keeper.refuses g.C.Crew.exact asked s.limits o
    (state_of (g.K.Keeper.told s.keeper) (g.K.Keeper.faults s.keeper) s.writer.posted)
    (state_of (g.K.Keeper.told a.new.keeper) (g.K.Keeper.faults a.new.keeper) s.writer.posted)
    (wire_of (g.L.Link.left l) (g.L.Link.plan l) (g.L.Link.written l) (g.L.Link.room l))
    (wire_of (g.L.Link.left a.new.link) (g.L.Link.plan a.new.link) (g.L.Link.written a.new.link)
    (g.L.Link.room a.new.link)) a.result)
    (sym c.in-Answers.is)
    (λ all known. (
      a.ensures.kept ∙ told,
      refl,
      a.ensures.answers all o (ap (λ e. prepend_known e (g.L.Link.left l)) c.items-in-Answers.ensures ∙ known) told,
    ))
