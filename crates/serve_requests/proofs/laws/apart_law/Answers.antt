use Rattle.serve_requests.proofs.HeadLaws.{apart}
use Rattle.serve_requests.proofs.laws.apart_law.Goals as goal

pub returns : goal.returns
returns c = apart
