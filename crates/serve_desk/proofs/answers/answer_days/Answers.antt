use Rattle.std.proofs.Common.{◌≡◌, List, [], inl, refl, subst, arith, ◌∙◌}
use Rattle.keep_office.specs.declared.kept.DayRecord.{DayRecord}
use Rattle.serve_requests.specs.Lists.{days_body}
use Rattle.serve_desk.specs.Answers.{wire_of, AnswersReply, good, days_reply}
use Rattle.serve_desk.proofs.SendLaws.{failed_rose, not_risen}
use Rattle.serve_desk.proofs.DayLaws.{memory_still, risen_failed}
use Rattle.serve_desk.proofs.SharedLaws.{some_of}
use Rattle.serve_desk.proofs.answers.answer_days.Goals as goal

pub returns-in-Ok-clause-sent : goal.returns-in-Ok-clause-sent
returns-in-Ok-clause-sent g c = λ o told.
    inl (
      c.in-Ok.ensures.cause.still refl,
      subst
          (λ days. AnswersReply (good (days_body days)) (g.L.Link.room c.args.link.now) (g.L.Link.written c.args.link.now)
          (g.L.Link.written c.send_made.new.link) c.send_made.result) (c.as_slice.ensures.value ∙ c.in-Ok.ensures.found o told)
          (c.send_made.ensures.sent (days_body c.as_slice.result.now) c.days_body.ensures),
    )

pub returns-in-Ok-clause-unavailable : goal.returns-in-Ok-clause-unavailable
returns-in-Ok-clause-unavailable g c =
    λ is. absurd (c.send_made.ensures.unavailable (λ e. (let same : 200 ≡ 503 = e in omega (arith, same))) is)

pub returns-in-Err-clause-sent : goal.returns-in-Err-clause-sent
returns-in-Err-clause-sent g c = λ o told.
    c.send_refusal.ensures.sent (days_reply o) _ _
    (failed_rose _ _ c.in-Err.fault c.in-Err.ensures.cause)
    (memory_still _ _ c.in-Err.fault c.in-Err.ensures.cause)

pub returns-in-Ok-clause-failed : goal.returns-in-Ok-clause-failed
returns-in-Ok-clause-failed g c = λ rose. not_risen _ _ (c.in-Ok.ensures.cause.still refl) rose

pub returns-in-Err-clause-failed : goal.returns-in-Err-clause-failed
returns-in-Err-clause-failed g c =
    λ rose. c.send_refusal.ensures.told (risen_failed _ _ c.in-Err.fault c.in-Err.ensures.cause rose)

pub returns-in-Ok-clause-some : goal.returns-in-Ok-clause-some
returns-in-Ok-clause-some g c =
    (c.as_slice.result.now, inl (c.send_made.ensures.sent (days_body c.as_slice.result.now) c.days_body.ensures))

pub returns-in-Err-clause-some : goal.returns-in-Err-clause-some
returns-in-Err-clause-some g c =
    let l = c.args.link.now in
    let n = c.send_refusal.new.link in
    some_of {T = List DayRecord} g.K.Keeper.faults (λ days. good (days_body days)) [] c.in-Err.fault
    (λ e. (
      c.args.keeper.now,
      c.kept_days.new.keeper,
      failed_rose _ _ c.in-Err.fault c.in-Err.ensures.cause e,
    ))
    (wire_of (g.L.Link.left l) (g.L.Link.plan l) (g.L.Link.written l) (g.L.Link.room l))
    (wire_of (g.L.Link.left n) (g.L.Link.plan n) (g.L.Link.written n) (g.L.Link.room n))
    c.send_refusal.result
    (c.send_refusal.ensures.sent (good (days_body [])))
