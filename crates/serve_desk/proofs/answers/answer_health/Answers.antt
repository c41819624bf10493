use Rattle.std.proofs.Common.{◌≡◌, inl, refl, subst, arith}
use Rattle.keep_office.specs.Office.{last_day}
use Rattle.serve_requests.specs.Bodies.{health_body}
use Rattle.serve_desk.specs.Answers.{AnswersReply, good, health_reply}
use Rattle.serve_desk.proofs.SendLaws.{kept_is, failed_rose, not_risen}
use Rattle.serve_desk.proofs.DayLaws.{memory_still, risen_failed}
use Rattle.serve_desk.proofs.answers.answer_health.Goals as goal

pub returns-in-Ok-clause-sent : goal.returns-in-Ok-clause-sent
returns-in-Ok-clause-sent g c = λ o told.
    let found = kept_is _ _ o c.in-Ok.last (λ o last. last ≡ last_day o) told
    c.in-Ok.ensures.state in
    inl (
      c.in-Ok.ensures.cause.still refl,
      subst
          (λ n. AnswersReply (good (health_body n)) (g.L.Link.room c.args.link.now) (g.L.Link.written c.args.link.now)
          (g.L.Link.written c.send_made.new.link) c.send_made.result) found
          (c.send_made.ensures.sent (health_body c.in-Ok.last) c.health_body.ensures),
    )

pub returns-in-Ok-clause-unavailable : goal.returns-in-Ok-clause-unavailable
returns-in-Ok-clause-unavailable g c =
    λ is. absurd (c.send_made.ensures.unavailable (λ e. (let same : 200 ≡ 503 = e in omega (arith, same))) is)

pub returns-in-Err-clause-sent : goal.returns-in-Err-clause-sent
returns-in-Err-clause-sent g c = λ o told.
    c.send_refusal.ensures.sent (health_reply o) _ _
    (failed_rose _ _ c.in-Err.fault c.in-Err.ensures.cause)
    (memory_still _ _ c.in-Err.fault c.in-Err.ensures.cause)

pub returns-in-Ok-clause-failed : goal.returns-in-Ok-clause-failed
returns-in-Ok-clause-failed g c = λ rose. not_risen _ _ (c.in-Ok.ensures.cause.still refl) rose

pub returns-in-Err-clause-failed : goal.returns-in-Err-clause-failed
returns-in-Err-clause-failed g c =
    λ rose. c.send_refusal.ensures.told (risen_failed _ _ c.in-Err.fault c.in-Err.ensures.cause rose)
