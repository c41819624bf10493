use Rattle.std.proofs.Common.{inl, refl, ap, None}
use Rattle.keep_office.specs.Office.{record_of}
use Rattle.serve_desk.specs.Answers.{wire_of, day_reply}
use Rattle.serve_desk.proofs.SendLaws.{not_risen}
use Rattle.serve_desk.proofs.DayLaws.{risen_failed}
use Rattle.serve_desk.proofs.SharedLaws.{read_of, refused_of, fails_of, some_of}
use Rattle.serve_desk.proofs.shared_answers.share_day.Goals as goal

pub returns-in-Ok-clause-shared : goal.returns-in-Ok-clause-shared
returns-in-Ok-clause-shared g c =
    let l = c.args.link.now in
    let n = c.send_day.new.link in
    read_of g.K.Keeper.told g.K.Keeper.faults c.in-Ok.kept c.in-Ok.ensures.shared
    (day_reply) (λ o. day_reply (record_of o c.args.day))
    (wire_of (g.L.Link.left l) (g.L.Link.plan l) (g.L.Link.written l) (g.L.Link.room l))
    (wire_of (g.L.Link.left n) (g.L.Link.plan n) (g.L.Link.written n) (g.L.Link.room n))
    c.send_day.result (λ o is. ap day_reply is) (c.send_day.ensures.sent)

pub returns-in-Ok-clause-some : goal.returns-in-Ok-clause-some
returns-in-Ok-clause-some g c = (c.in-Ok.kept, inl (c.send_day.ensures.sent))

pub returns-in-Ok-clause-unavailable : goal.returns-in-Ok-clause-unavailable
returns-in-Ok-clause-unavailable g c = λ is. absurd (c.send_day.ensures.unavailable is)

pub returns-in-Ok-clause-failed : goal.returns-in-Ok-clause-failed
returns-in-Ok-clause-failed g c = λ rose. not_risen _ _ (c.in-Ok.ensures.cause.still refl) rose

pub returns-in-Err-clause-shared : goal.returns-in-Err-clause-shared
returns-in-Err-clause-shared g c =
    let l = c.args.link.now in
    let n = c.send_refusal.new.link in
    refused_of g.K.Keeper.told g.K.Keeper.faults c.in-Err.fault c.in-Err.ensures.shared
    (λ o. day_reply (record_of o c.args.day))
    (wire_of (g.L.Link.left l) (g.L.Link.plan l) (g.L.Link.written l) (g.L.Link.room l))
    (wire_of (g.L.Link.left n) (g.L.Link.plan n) (g.L.Link.written n) (g.L.Link.room n))
    c.send_refusal.result c.send_refusal.ensures.sent

pub returns-in-Err-clause-some : goal.returns-in-Err-clause-some
returns-in-Err-clause-some g c =
    let l = c.args.link.now in
    let n = c.send_refusal.new.link in
    some_of g.K.Keeper.faults (day_reply) None c.in-Err.fault
    (fails_of g.K.Keeper.told g.K.Keeper.faults c.in-Err.fault c.in-Err.ensures.shared)
    (wire_of (g.L.Link.left l) (g.L.Link.plan l) (g.L.Link.written l) (g.L.Link.room l))
    (wire_of (g.L.Link.left n) (g.L.Link.plan n) (g.L.Link.written n) (g.L.Link.room n))
    c.send_refusal.result
    (c.send_refusal.ensures.sent (day_reply None))

pub returns-in-Err-clause-failed : goal.returns-in-Err-clause-failed
returns-in-Err-clause-failed g c =
    λ rose. c.send_refusal.ensures.told (risen_failed _ _ c.in-Err.fault c.in-Err.ensures.cause rose)
