use Rattle.std.proofs.Common.{◌≡◌, inl, refl, subst, arith}
use Rattle.road_time.specs.History.{paid}
use Rattle.serve_requests.specs.Bodies.{spent_body}
use Rattle.serve_desk.specs.Answers.{AnswersReply, good, spent_reply}
use Rattle.serve_desk.proofs.SendLaws.{kept_is, failed_rose, not_risen}
use Rattle.serve_desk.proofs.DayLaws.{memory_still, risen_failed}
use Rattle.serve_desk.proofs.answers.answer_spent.Goals as goal

pub returns-in-Ok-clause-sent : goal.returns-in-Ok-clause-sent
returns-in-Ok-clause-sent g c = λ o told.
    let found = kept_is _ _ o c.in-Ok.amount (λ o tolls. tolls ≡ paid o.rows c.args.day c.args.vid c.args.xway) told
    c.in-Ok.ensures.state in
    inl (
      c.in-Ok.ensures.cause.still refl,
      subst
          (λ n. AnswersReply (good (spent_body n)) (g.L.Link.room c.args.link.now) (g.L.Link.written c.args.link.now)
          (g.L.Link.written c.send_made.new.link) c.send_made.result) found
          (c.send_made.ensures.sent (spent_body c.in-Ok.amount) c.spent_body.ensures),
    )

pub returns-in-Ok-clause-unavailable : goal.returns-in-Ok-clause-unavailable
returns-in-Ok-clause-unavailable g c =
    λ is. absurd (c.send_made.ensures.unavailable (λ e. (let same : 200 ≡ 503 = e in omega (arith, same))) is)

pub returns-in-Err-clause-sent : goal.returns-in-Err-clause-sent
returns-in-Err-clause-sent g c = λ o told.
    c.send_refusal.ensures.sent (spent_reply o c.args.day c.args.xway c.args.vid) _ _
    (failed_rose _ _ c.in-Err.fault c.in-Err.ensures.cause)
    (memory_still _ _ c.in-Err.fault c.in-Err.ensures.cause)

pub returns-in-Ok-clause-failed : goal.returns-in-Ok-clause-failed
returns-in-Ok-clause-failed g c = λ rose. not_risen _ _ (c.in-Ok.ensures.cause.still refl) rose

pub returns-in-Err-clause-failed : goal.returns-in-Err-clause-failed
returns-in-Err-clause-failed g c =
    λ rose. c.send_refusal.ensures.told (risen_failed _ _ c.in-Err.fault c.in-Err.ensures.cause rose)
