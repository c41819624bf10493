use Rattle.serve_requests.proofs.HeadLaws.{one_head}
use Rattle.serve_requests.proofs.laws.one_head_law.Goals as goal

pub returns : goal.returns
returns c = one_head
