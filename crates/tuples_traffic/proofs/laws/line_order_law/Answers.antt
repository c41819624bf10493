use Rattle.tuples_traffic.proofs.RangeLaws.{in_range}
use Rattle.tuples_traffic.proofs.FileLaws.{in_line_order}
use Rattle.tuples_traffic.proofs.laws.line_order_law.Goals as goal

pub returns : goal.returns
returns c = λ plan e. in_line_order plan (in_range plan e)
