use Rattle.std.proofs.Common.{sym, subst, ap, ◌∙◌, refl}
use Rattle.std.specs.Io.KnownBytes.{prepend_known}
use Rattle.serve_desk.specs.Answers.{wire_of}
use Rattle.serve_desk.specs.Seats.{seated, stays}
use Rattle.serve_desk.specs.Shared.{AnswersShared, ImportsShared, AnswersNotices}
use Rattle.serve_desk.proofs.two_locks.answer_shared.Goals as goal

pub returns-in-Day-clause-shared : goal.returns-in-Day-clause-shared
returns-in-Day-clause-shared g c =
    let l = c.args.link.now in
    let s = seated c.args.reader.now c.args.place.now.seen.log in
    let a = c.share_day in
    subst (λ asked. AnswersShared g.K.Keeper.told g.K.Keeper.faults g.K.Keeper.refuses g.C.Crew.exact
    c.args.work.now.limits asked s s
    (wire_of (g.L.Link.left l) (g.L.Link.plan l) (g.L.Link.written l) (g.L.Link.room l))
    (wire_of (g.L.Link.left a.new.link) (g.L.Link.plan a.new.link) (g.L.Link.written a.new.link)
    (g.L.Link.room a.new.link)) a.result)
    (sym c.in-Day.is) (a.ensures.shared, a.ensures.some, a.ensures.unread, refl)

pub returns-in-Spent-clause-shared : goal.returns-in-Spent-clause-shared
returns-in-Spent-clause-shared g c =
    let l = c.args.link.now in
    let s = seated c.args.reader.now c.args.place.now.seen.log in
    let a = c.share_spent in
    subst (λ asked. AnswersShared g.K.Keeper.told g.K.Keeper.faults g.K.Keeper.refuses g.C.Crew.exact
    c.args.work.now.limits asked s s
    (wire_of (g.L.Link.left l) (g.L.Link.plan l) (g.L.Link.written l) (g.L.Link.room l))
    (wire_of (g.L.Link.left a.new.link) (g.L.Link.plan a.new.link) (g.L.Link.written a.new.link)
    (g.L.Link.room a.new.link)) a.result)
    (sym c.in-Spent.is) (a.ensures.shared, a.ensures.some, a.ensures.unread, refl)

pub returns-in-Health-clause-shared : goal.returns-in-Health-clause-shared
returns-in-Health-clause-shared g c =
    let l = c.args.link.now in
    let s = seated c.args.reader.now c.args.place.now.seen.log in
    let a = c.share_health in
    subst (λ asked. AnswersShared g.K.Keeper.told g.K.Keeper.faults g.K.Keeper.refuses g.C.Crew.exact
    c.args.work.now.limits asked s s
    (wire_of (g.L.Link.left l) (g.L.Link.plan l) (g.L.Link.written l) (g.L.Link.room l))
    (wire_of (g.L.Link.left a.new.link) (g.L.Link.plan a.new.link) (g.L.Link.written a.new.link)
    (g.L.Link.room a.new.link)) a.result)
    (sym c.in-Health.is) (a.ensures.shared, a.ensures.some, a.ensures.unread, refl)

pub returns-in-Vehicle-clause-shared : goal.returns-in-Vehicle-clause-shared
returns-in-Vehicle-clause-shared g c =
    let l = c.args.link.now in
    let s = seated c.args.reader.now c.args.place.now.seen.log in
    let a = c.share_vehicle in
    subst (λ asked. AnswersShared g.K.Keeper.told g.K.Keeper.faults g.K.Keeper.refuses g.C.Crew.exact
    c.args.work.now.limits asked s s
    (wire_of (g.L.Link.left l) (g.L.Link.plan l) (g.L.Link.written l) (g.L.Link.room l))
    (wire_of (g.L.Link.left a.new.link) (g.L.Link.plan a.new.link) (g.L.Link.written a.new.link)
    (g.L.Link.room a.new.link)) a.result)
    (sym c.in-Vehicle.is) (a.ensures.shared, a.ensures.some, a.ensures.unread, refl)

pub returns-in-Days-clause-shared : goal.returns-in-Days-clause-shared
returns-in-Days-clause-shared g c =
    let l = c.args.link.now in
    let s = seated c.args.reader.now c.args.place.now.seen.log in
    let a = c.share_days in
    subst (λ asked. AnswersShared g.K.Keeper.told g.K.Keeper.faults g.K.Keeper.refuses g.C.Crew.exact
    c.args.work.now.limits asked s s
    (wire_of (g.L.Link.left l) (g.L.Link.plan l) (g.L.Link.written l) (g.L.Link.room l))
    (wire_of (g.L.Link.left a.new.link) (g.L.Link.plan a.new.link) (g.L.Link.written a.new.link)
    (g.L.Link.room a.new.link)) a.result)
    (sym c.in-Days.is) (a.ensures.listed, a.ensures.some, a.ensures.unread, refl)

pub returns-in-Page-clause-shared : goal.returns-in-Page-clause-shared
returns-in-Page-clause-shared g c =
    let l = c.args.link.now in
    let s = seated c.args.reader.now c.args.place.now.seen.log in
    let a = c.answer_page in
    subst (λ asked. AnswersShared g.K.Keeper.told g.K.Keeper.faults g.K.Keeper.refuses g.C.Crew.exact
    c.args.work.now.limits asked s s
    (wire_of (g.L.Link.left l) (g.L.Link.plan l) (g.L.Link.written l) (g.L.Link.room l))
    (wire_of (g.L.Link.left a.new.link) (g.L.Link.plan a.new.link) (g.L.Link.written a.new.link)
    (g.L.Link.room a.new.link)) a.result)
    (sym c.in-Page.is) (a.ensures.sent, a.ensures.unread, refl)

pub returns-in-Import-clause-shared : goal.returns-in-Import-clause-shared
returns-in-Import-clause-shared g c =
    let l = c.args.link.now in
    let s = seated c.args.reader.now c.args.place.now.seen.log in
    let a = c.import_shared in
    subst (λ asked. AnswersShared g.K.Keeper.told g.K.Keeper.faults g.K.Keeper.refuses g.C.Crew.exact
    c.args.work.now.limits asked s (seated a.new.reader a.new.place.seen.log)
    (wire_of (g.L.Link.left l) (g.L.Link.plan l) (g.L.Link.written l) (g.L.Link.room l))
    (wire_of (g.L.Link.left a.new.link) (g.L.Link.plan a.new.link) (g.L.Link.written a.new.link)
    (g.L.Link.room a.new.link)) a.result)
    (sym c.in-Import.is) (
      λ all known. a.ensures.posts all (ap (λ e. prepend_known e (g.L.Link.left l)) c.items.ensures ∙ known),
      subst
          (λ e. ImportsShared g.K.Keeper.told g.K.Keeper.refuses g.C.Crew.exact c.args.work.now.limits
          c.in-Import.day c.in-Import.length e s (seated a.new.reader a.new.place.seen.log)
          (wire_of (g.L.Link.left l) (g.L.Link.plan l) (g.L.Link.written l) (g.L.Link.room l))
          (wire_of (g.L.Link.left a.new.link) (g.L.Link.plan a.new.link) (g.L.Link.written a.new.link)
          (g.L.Link.room a.new.link)) a.result)
          c.items.ensures a.ensures.imports,
    )

pub returns-in-Answers-clause-shared : goal.returns-in-Answers-clause-shared
returns-in-Answers-clause-shared g c =
    let l = c.args.link.now in
    let s = seated c.args.reader.now c.args.place.now.seen.log in
    let a = c.answer_notices_shared in
    subst (λ asked. AnswersShared g.K.Keeper.told g.K.Keeper.faults g.K.Keeper.refuses g.C.Crew.exact
    c.args.work.now.limits asked s s
    (wire_of (g.L.Link.left l) (g.L.Link.plan l) (g.L.Link.written l) (g.L.Link.room l))
    (wire_of (g.L.Link.left a.new.link) (g.L.Link.plan a.new.link) (g.L.Link.written a.new.link)
    (g.L.Link.room a.new.link)) a.result)
    (sym c.in-Answers.is) (
      subst
          (λ e. AnswersNotices g.K.Keeper.told g.K.Keeper.refuses g.C.Crew.exact c.args.work.now.limits c.in-Answers.day
          c.in-Answers.length e
          (wire_of (g.L.Link.left l) (g.L.Link.plan l) (g.L.Link.written l) (g.L.Link.room l))
          (wire_of (g.L.Link.left a.new.link) (g.L.Link.plan a.new.link) (g.L.Link.written a.new.link)
          (g.L.Link.room a.new.link)) a.result)
          c.items-in-Answers.ensures a.ensures.answers,
      refl,
    )

pub returns-in-Day-clause-follows : goal.returns-in-Day-clause-follows
returns-in-Day-clause-follows g c = stays _

pub returns-in-Spent-clause-follows : goal.returns-in-Spent-clause-follows
returns-in-Spent-clause-follows g c = stays _

pub returns-in-Vehicle-clause-follows : goal.returns-in-Vehicle-clause-follows
returns-in-Vehicle-clause-follows g c = stays _

pub returns-in-Days-clause-follows : goal.returns-in-Days-clause-follows
returns-in-Days-clause-follows g c = stays _

pub returns-in-Page-clause-follows : goal.returns-in-Page-clause-follows
returns-in-Page-clause-follows g c = stays _

pub returns-in-Answers-clause-follows : goal.returns-in-Answers-clause-follows
returns-in-Answers-clause-follows g c = stays _

pub returns-in-Health-clause-follows : goal.returns-in-Health-clause-follows
returns-in-Health-clause-follows g c = stays _
