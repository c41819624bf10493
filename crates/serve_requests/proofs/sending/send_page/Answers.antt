use Rattle.std.proofs.Common.{inl, subst, ◌∙◌}
use Rattle.serve_requests.specs.Sends.{Sends}
use Rattle.serve_requests.proofs.sending.send_page.Goals as goal

pub returns-in-Ok-clause-sent : goal.returns-in-Ok-clause-sent
returns-in-Ok-clause-sent g c =
    let old = g.L.Link.written c.args.link.now in
    let new = g.L.Link.written c.send_bytes.new.link in
    inl (subst (λ t. Sends 200 t old new c.send_bytes.result) (c.as_bytes.ensures.value ∙ c.in-Ok.ensures)
    c.send_bytes.ensures.sent)
