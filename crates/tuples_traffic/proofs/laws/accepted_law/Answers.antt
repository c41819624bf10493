use Rattle.tuples_traffic.proofs.RangeLaws.{in_range}
use Rattle.tuples_traffic.proofs.FileLaws.{is_day, accepted}
use Rattle.tuples_traffic.proofs.laws.accepted_law.Goals as goal

pub returns : goal.returns
returns c = λ plan e. (is_day plan (in_range plan e), accepted plan (in_range plan e))
