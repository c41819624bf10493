use Rattle.serve_desk.proofs.LimitLaws.{same_reads}
use Rattle.serve_desk.proofs.streaming.streamed.Goals as goal

pub returns-clause-same : goal.returns-clause-same
returns-clause-same c = λ bytes late. same_reads c.args.limits.now c.min.result bytes late
