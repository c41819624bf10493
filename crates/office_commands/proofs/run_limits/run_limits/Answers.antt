use Rattle.office_commands.proofs.LimitLaws.{same_reads}
use Rattle.office_commands.proofs.run_limits.run_limits.Goals as goal

pub returns-clause-same : goal.returns-clause-same
returns-clause-same c = λ bytes late. same_reads c.args.limits.now c.min.result bytes late
