use Rattle.std.proofs.Common.{length, sym, subst}
use Rattle.serve_requests.specs.Sends.{Sends, HasRoom}
use Rattle.serve_desk.proofs.SendLaws.{endless_room, fault_told}
use Rattle.serve_desk.proofs.answers.send_keeper_fault.Goals as goal

pub returns-clause-sent : goal.returns-clause-sent
returns-clause-sent g c = (
  subst (λ t. Sends 503 t (g.L.Link.written c.args.link.now) (g.L.Link.written c.send_bytes.new.link) c.send_bytes.result)
      c.keeper_text.ensures c.send_bytes.ensures.sent,
  λ has. c.send_bytes.ensures.sure
      (subst (λ t. HasRoom (g.L.Link.room c.args.link.now) (length t)) (sym c.keeper_text.ensures) has),
)

pub returns-clause-told : goal.returns-clause-told
returns-clause-told g c = fault_told _ _ _ c.send_bytes.result c.send_bytes.ensures.sent

pub returns-clause-sure : goal.returns-clause-sure
returns-clause-sure g c = λ endless. c.send_bytes.ensures.sure (endless_room _ _ endless)
