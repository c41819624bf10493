use Rattle.std.proofs.Common.{inl, refl, sym, subst}
use Rattle.serve_requests.specs.declared.wanted.Refusal.TheVariants.{BadHead}
use Rattle.serve_requests.specs.Fronts.{ReadsSoon}
use Rattle.serve_requests.specs.Sends.{SendsReply, refusal_reply}
use Rattle.serve_requests.proofs.ReplyLaws.{refused}
use Rattle.serve_requests.proofs.StatusLaws.{refusal_is_available}
use Rattle.serve_requests.proofs.reading.read_asked.Goals as goal

pub returns-in-Bad-clause-reads : goal.returns-in-Bad-clause-reads
returns-in-Bad-clause-reads g c = λ bytes is.
    refused bytes (g.L.Link.left c.refuse.new.link) _ _ BadHead c.refuse.result
    (inl (refl, c.in-Bad.ensures.front bytes is))
    (subst (λ o. SendsReply (refusal_reply BadHead) o (g.L.Link.written c.refuse.new.link) c.refuse.result)
    c.read_front.ensures.unwritten c.refuse.ensures.sent)

pub returns-in-Bad-clause-available : goal.returns-in-Bad-clause-available
returns-in-Bad-clause-available g c = λ same. refusal_is_available BadHead _ _ _ c.refuse.ensures.sent (cc same)

pub returns-in-Head-clause-soon : goal.returns-in-Head-clause-soon
returns-in-Head-clause-soon g c =
    λ bytes most is up. subst (ReadsSoon most bytes) (sym c.ask.ensures.unread) (c.read_front.ensures.soon bytes most is up)

pub returns-in-Bad-clause-soon : goal.returns-in-Bad-clause-soon
returns-in-Bad-clause-soon g c =
    λ bytes most is up. subst (ReadsSoon most bytes) (sym c.refuse.ensures.unread)
    (c.read_front.ensures.soon bytes most is up)
