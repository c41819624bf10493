use Rattle.std.proofs.Common.{◌≡◌, inl, length, sym, subst, arith}
use Rattle.serve_requests.specs.Bodies.{day_body}
use Rattle.serve_desk.specs.Answers.{AnswersReply, day_reply}
use Rattle.serve_requests.specs.Sends.{Sends, HasRoom}
use Rattle.serve_requests.proofs.StatusLaws.{not_sent_503}
use Rattle.serve_desk.proofs.SendLaws.{endless_room}
use Rattle.serve_desk.proofs.answers.send_day.Goals as goal

pub returns-in-Some-clause-sent : goal.returns-in-Some-clause-sent
returns-in-Some-clause-sent g c =
    subst (λ k. AnswersReply (day_reply k) (g.L.Link.room c.args.link.now) (g.L.Link.written c.args.link.now)
    (g.L.Link.written c.send_made.new.link) c.send_made.result) (sym c.in-Some.is)
    (c.send_made.ensures.sent (day_body c.in-Some.kept) c.day_body.ensures)

pub returns-in-Some-clause-unavailable : goal.returns-in-Some-clause-unavailable
returns-in-Some-clause-unavailable g c =
    c.send_made.ensures.unavailable (λ e. (let same : 200 ≡ 503 = e in omega (arith, same)))

pub returns-in-None-clause-sent : goal.returns-in-None-clause-sent
returns-in-None-clause-sent g c =
    let old = g.L.Link.written c.args.link.now in
    let new = g.L.Link.written c.send_bytes.new.link in
    subst (λ k. AnswersReply (day_reply k) (g.L.Link.room c.args.link.now) old new c.send_bytes.result) (sym c.in-None.is) (
      inl (subst (λ t. Sends 404 t old new c.send_bytes.result) c.no_day_text.ensures c.send_bytes.ensures.sent),
      λ has. c.send_bytes.ensures.sure
          (subst (λ t. HasRoom (g.L.Link.room c.args.link.now) (length t)) (sym c.no_day_text.ensures) has.0),
    )

pub returns-in-None-clause-unavailable : goal.returns-in-None-clause-unavailable
returns-in-None-clause-unavailable g c = λ is. not_sent_503 404 _ _ _ _ c.send_bytes.ensures.sent
    (λ e. (let same : 404 ≡ 503 = e in omega (arith, same))) is

pub returns-in-None-clause-sure : goal.returns-in-None-clause-sure
returns-in-None-clause-sure g c = λ endless. c.send_bytes.ensures.sure (endless_room _ _ endless)
