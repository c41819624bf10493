use Rattle.std.proofs.Common.{length, subst, sym}
use Rattle.serve_requests.specs.Sends.{Sends, HasRoom, refusal_reply}
use Rattle.serve_requests.proofs.ReplyLaws.{refusal_has}
use Rattle.serve_requests.proofs.refusing.refuse.Goals as goal

pub returns-clause-sent : goal.returns-clause-sent
returns-clause-sent g c =
    let old = g.L.Link.written c.args.link.now in
    let new = g.L.Link.written c.send_bytes.new.link in
    subst (λ t. Sends (refusal_reply c.args.refusal).status t old new c.send_bytes.result) c.refusal_text.ensures
    (subst (λ s. Sends s c.refusal_text.result.now old new c.send_bytes.result) c.refusal_status.ensures
    c.send_bytes.ensures.sent)

pub returns-clause-sure : goal.returns-clause-sure
returns-clause-sure g c = λ has. c.send_bytes.ensures.sure
    (subst (λ t. HasRoom (g.L.Link.room c.args.link.now) (length t)) (sym c.refusal_text.ensures)
    (refusal_has _ c.args.refusal has))
