use Rattle.std.proofs.Common.{◌≡◌, inl, refl, subst, arith, ◌∙◌}
use Rattle.keep_office.specs.Office.{vehicle_rows_between}
use Rattle.serve_requests.specs.Lists.{vehicle_body}
use Rattle.serve_desk.specs.Answers.{AnswersReply, good, vehicle_reply}
use Rattle.serve_desk.proofs.SendLaws.{kept_is, failed_rose, not_risen}
use Rattle.serve_desk.proofs.DayLaws.{memory_still, risen_failed}
use Rattle.serve_desk.proofs.answers.answer_vehicle.Goals as goal

pub returns-in-Ok-clause-sent : goal.returns-in-Ok-clause-sent
returns-in-Ok-clause-sent g c = λ o told.
    let vid = c.args.vid in
    let from = c.args.from in
    let to = c.args.to in
    let found = kept_is _ _ o c.in-Ok.rows (λ o rows. rows.items ≡ vehicle_rows_between o vid from to) told
    c.in-Ok.ensures.state in
    inl (
      c.in-Ok.ensures.cause.still refl,
      subst
          (λ rows. AnswersReply (good (vehicle_body vid from to rows)) (g.L.Link.room c.args.link.now)
          (g.L.Link.written c.args.link.now) (g.L.Link.written c.send_made.new.link) c.send_made.result)
          (c.as_slice.ensures.value ∙ found)
          (c.send_made.ensures.sent (vehicle_body vid from to c.as_slice.result.now) c.vehicle_body-body.ensures),
    )

pub returns-in-Ok-clause-unavailable : goal.returns-in-Ok-clause-unavailable
returns-in-Ok-clause-unavailable g c =
    λ is. absurd (c.send_made.ensures.unavailable (λ e. (let same : 200 ≡ 503 = e in omega (arith, same))) is)

pub returns-in-Err-clause-sent : goal.returns-in-Err-clause-sent
returns-in-Err-clause-sent g c = λ o told.
    c.send_refusal.ensures.sent (vehicle_reply o c.args.vid c.args.from c.args.to) _ _
    (failed_rose _ _ c.in-Err.fault c.in-Err.ensures.cause)
    (memory_still _ _ c.in-Err.fault c.in-Err.ensures.cause)

pub returns-in-Ok-clause-failed : goal.returns-in-Ok-clause-failed
returns-in-Ok-clause-failed g c = λ rose. not_risen _ _ (c.in-Ok.ensures.cause.still refl) rose

pub returns-in-Err-clause-failed : goal.returns-in-Err-clause-failed
returns-in-Err-clause-failed g c =
    λ rose. c.send_refusal.ensures.told (risen_failed _ _ c.in-Err.fault c.in-Err.ensures.cause rose)
