use Rattle.serve_requests.proofs.AskedBodyLaws.{never_faulty}
use Rattle.serve_requests.proofs.skipping.skip_body.Goals as goal

pub returns-clause-sure : goal.returns-clause-sure
returns-clause-sure g c = λ never is. never_faulty _ _ _ c.skip_from.result c.skip_from.ensures.cause never is
