use Rattle.std.proofs.Common.{arith}
use Rattle.tuples_traffic.proofs.RangeLaws.{in_range}
use Rattle.tuples_traffic.proofs.FileLaws.{few_lines, few_bytes}
use Rattle.tuples_traffic.proofs.laws.size_law.Goals as goal

pub returns : goal.returns
returns c = λ plan e. (omega (arith, few_lines plan (in_range plan e)), few_bytes plan (in_range plan e))
