use Rattle.std.proofs.Common.{◌≡◌, ◌-◌, ◌++◌, length, arith, drop, inr, Ok, Some, subst, sym, ap, refl, ◌∙◌}
use Rattle.std.proofs.lemmas.List.{take_all, length-drop}
use Rattle.serve_requests.specs.ReadRequests.{asked_for, wanted_in, HasBody}
use Rattle.serve_requests.proofs.StatusLaws.{memory_is_available, refusal_is_available}
use Rattle.serve_requests.proofs.ReplyLaws.{room_for_memory, heads_on, wanted_same, has_body, refused, starved}
use Rattle.serve_requests.proofs.reading.ask.Goals as goal

pub returns-in-Ok-asked_of-clause-reads : goal.returns-in-Ok-asked_of-clause-reads
returns-in-Ok-asked_of-clause-reads g c = λ h bytes at few known.
    let buf = c.args.buf.now in
    let k = heads_on buf bytes _ _ h (g.L.Link.left c.args.link.now) at few c.requires.short known in
    let rest = drop c.args.spans.now.len buf in
    let asked : c.in-Ok-asked_of.asked ≡ asked_for c.in-Ok.wanted rest =
    c.in-Ok-asked_of.ensures.asked
    ∙ ap (asked_for c.in-Ok.wanted)
    (take_all (length buf - c.args.spans.now.len) rest (omega (arith, length-drop c.args.spans.now.len buf))) in (
      h,
      rest ++ k.0,
      k.2,
      sym (c.wanted_of.ensures.wanted h at) ∙ c.in-Ok.is
          ∙ ap Ok (sym (ap wanted_in asked ∙ wanted_same c.in-Ok.wanted rest)),
      subst (λ l. HasBody c.in-Ok-asked_of.asked (rest ++ k.0) l) (sym k.1)
          (subst (λ a. HasBody a (rest ++ k.0) (Some k.0)) (sym asked) (has_body c.in-Ok.wanted rest k.0)),
      refl,
    )

pub returns-in-Err-asked_of-clause-reads : goal.returns-in-Err-asked_of-clause-reads
returns-in-Err-asked_of-clause-reads g c = λ h bytes at few known.
    let k = heads_on c.args.buf.now bytes _ _ h (g.L.Link.left c.args.link.now) at few c.requires.short known in
    starved bytes (g.L.Link.left c.send_no_memory.new.link) _ _ c.send_no_memory.result
    (h, _, c.in-Ok.wanted, k.2, sym (c.wanted_of.ensures.wanted h at) ∙ c.in-Ok.is, c.in-Err-asked_of.ensures.memory)
    c.send_no_memory.ensures.sent

pub returns-in-Err-clause-reads : goal.returns-in-Err-clause-reads
returns-in-Err-clause-reads g c = λ h bytes at few known.
    let k = heads_on c.args.buf.now bytes _ _ h (g.L.Link.left c.args.link.now) at few c.requires.short known in
    refused bytes (g.L.Link.left c.refuse.new.link) _ _ c.in-Err.refusal c.refuse.result
    (inr (h, _, k.2, sym (c.wanted_of.ensures.wanted h at) ∙ c.in-Err.is)) c.refuse.ensures.sent

pub returns-in-Err-asked_of-clause-sure : goal.returns-in-Err-asked_of-clause-sure
returns-in-Err-asked_of-clause-sure g c = λ has same. c.send_no_memory.ensures.sure (room_for_memory _ has) (cc same)

pub returns-in-Err-clause-available : goal.returns-in-Err-clause-available
returns-in-Err-clause-available g c =
    λ same. refusal_is_available c.in-Err.refusal _ _ _ c.refuse.ensures.sent (cc same)

pub returns-in-Err-asked_of-clause-available : goal.returns-in-Err-asked_of-clause-available
returns-in-Err-asked_of-clause-available g c = λ same. memory_is_available _ _ _ c.send_no_memory.ensures.sent (cc same)
