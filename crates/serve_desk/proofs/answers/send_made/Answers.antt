use Rattle.std.proofs.Common.{IfOk, string_bytes, subst, ◌≡◌, ◌∙◌}
use Rattle.serve_requests.specs.Replies.{no_memory_reply}
use Rattle.serve_desk.specs.Answers.{AnswersReply}
use Rattle.serve_requests.proofs.ReplyLaws.{reply_of}
use Rattle.serve_requests.proofs.StatusLaws.{not_unavailable, memory_is_available}
use Rattle.serve_desk.proofs.SendLaws.{endless_has, memory_answers}
use Rattle.serve_desk.proofs.answers.send_made.Goals as goal

pub returns-in-Ok-clause-sent : goal.returns-in-Ok-clause-sent
returns-in-Ok-clause-sent g c = λ text is.
    let same : string_bytes c.in-Ok.text ≡ text = subst (λ b. IfOk b (λ s. string_bytes s ≡ text)) c.in-Ok.is is in
    subst (λ b.
    AnswersReply (reply_of c.args.status b) (g.L.Link.room c.args.link.now) (g.L.Link.written c.args.link.now)
    (g.L.Link.written c.send_reply.new.link) c.send_reply.result)
    (c.as_str.ensures.value ∙ same) (c.send_reply.ensures.sent, c.send_reply.ensures.sure)

pub returns-in-Ok-clause-unavailable : goal.returns-in-Ok-clause-unavailable
returns-in-Ok-clause-unavailable g c =
    λ other is. not_unavailable (reply_of c.args.status c.as_str.result.now) _ _ _ c.send_reply.ensures.sent other is

pub returns-in-Ok-clause-sure : goal.returns-in-Ok-clause-sure
returns-in-Ok-clause-sure g c =
    λ endless. c.send_reply.ensures.sure (endless_has _ (reply_of c.args.status c.as_str.result.now) endless)

pub returns-in-Err-clause-sent : goal.returns-in-Err-clause-sent
returns-in-Err-clause-sent g c =
    λ text is. memory_answers (reply_of c.args.status text) _ _ _ _ c.send_no_memory.ensures.sent
    c.send_no_memory.ensures.sure

pub returns-in-Err-clause-unavailable : goal.returns-in-Err-clause-unavailable
returns-in-Err-clause-unavailable g c = λ other is. memory_is_available _ _ _ c.send_no_memory.ensures.sent is

pub returns-in-Err-clause-sure : goal.returns-in-Err-clause-sure
returns-in-Err-clause-sure g c = λ endless. c.send_no_memory.ensures.sure (endless_has _ no_memory_reply endless)
