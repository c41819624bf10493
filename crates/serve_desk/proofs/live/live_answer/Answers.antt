use Rattle.std.proofs.Common.{sym, subst}
use Rattle.serve_desk.specs.Answers.{wire_of}
use Rattle.serve_desk.specs.Live.{asked_of, AnswersLive}
use Rattle.serve_desk.proofs.live.live_answer.Goals as goal

pub returns-in-Live-clause-answers : goal.returns-in-Live-clause-answers
returns-in-Live-clause-answers g c =
    let l = c.args.link.now in
    let a = c.answer_balance in
    subst (λ asked. AnswersLive (asked_of asked) (g.W.Watch.pass c.args.reader.now) (g.W.Watch.pass a.new.reader)
    (wire_of (g.L.Link.left l) (g.L.Link.plan l) (g.L.Link.written l) (g.L.Link.room l))
    (wire_of (g.L.Link.left a.new.link) (g.L.Link.plan a.new.link) (g.L.Link.written a.new.link)
    (g.L.Link.room a.new.link)) a.result)
    (sym c.in-Live.is) a.ensures.answers

pub returns-in-LiveTotal-clause-answers : goal.returns-in-LiveTotal-clause-answers
returns-in-LiveTotal-clause-answers g c =
    let l = c.args.link.now in
    let a = c.answer_total in
    subst (λ asked. AnswersLive (asked_of asked) (g.W.Watch.pass c.args.reader.now) (g.W.Watch.pass a.new.reader)
    (wire_of (g.L.Link.left l) (g.L.Link.plan l) (g.L.Link.written l) (g.L.Link.room l))
    (wire_of (g.L.Link.left a.new.link) (g.L.Link.plan a.new.link) (g.L.Link.written a.new.link)
    (g.L.Link.room a.new.link)) a.result)
    (sym c.in-LiveTotal.is) a.ensures.answers
