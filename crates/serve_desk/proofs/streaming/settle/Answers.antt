use Rattle.serve_requests.proofs.AskedBodyLaws.{sure_plan}
use Rattle.serve_desk.proofs.ReadLaws.{plan_sure}
use Rattle.serve_desk.proofs.streaming.settle.Goals as goal

pub returns-clause-link_sure : goal.returns-clause-link_sure
returns-clause-link_sure g c = λ never. plan_sure _ (c.settle_from.ensures.link_sure (sure_plan _ never))
