use Rattle.std.proofs.Common.{◌≡◌, inl, refl, subst}
use Rattle.keep_office.specs.Office.{record_of}
use Rattle.serve_desk.specs.Answers.{AnswersReply, day_reply}
use Rattle.serve_desk.proofs.SendLaws.{kept_is, failed_rose, not_risen}
use Rattle.serve_desk.proofs.DayLaws.{memory_still, risen_failed}
use Rattle.serve_desk.proofs.answers.answer_day.Goals as goal

pub returns-in-Ok-clause-sent : goal.returns-in-Ok-clause-sent
returns-in-Ok-clause-sent g c = λ o told.
    let found = kept_is _ _ o c.in-Ok.kept (λ o kept. kept ≡ record_of o c.args.day) told c.in-Ok.ensures.state in
    inl (
      c.in-Ok.ensures.cause.still refl,
      subst
          (λ k. AnswersReply (day_reply k) (g.L.Link.room c.args.link.now) (g.L.Link.written c.args.link.now)
          (g.L.Link.written c.send_day.new.link) c.send_day.result) found c.send_day.ensures.sent,
    )

pub returns-in-Ok-clause-unavailable : goal.returns-in-Ok-clause-unavailable
returns-in-Ok-clause-unavailable g c = λ is. absurd (c.send_day.ensures.unavailable is)

pub returns-in-Err-clause-sent : goal.returns-in-Err-clause-sent
returns-in-Err-clause-sent g c = λ o told.
    c.send_refusal.ensures.sent (day_reply (record_of o c.args.day)) _ _
    (failed_rose _ _ c.in-Err.fault c.in-Err.ensures.cause)
    (memory_still _ _ c.in-Err.fault c.in-Err.ensures.cause)

pub returns-in-Ok-clause-failed : goal.returns-in-Ok-clause-failed
returns-in-Ok-clause-failed g c = λ rose. not_risen _ _ (c.in-Ok.ensures.cause.still refl) rose

pub returns-in-Err-clause-failed : goal.returns-in-Err-clause-failed
returns-in-Err-clause-failed g c =
    λ rose. c.send_refusal.ensures.told (risen_failed _ _ c.in-Err.fault c.in-Err.ensures.cause rose)
