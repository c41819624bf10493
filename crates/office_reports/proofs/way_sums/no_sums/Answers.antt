use Rattle.std.proofs.lemmas.List.{get_or-replicate}
use Rattle.office_reports.proofs.way_sums.no_sums.Goals as goal

pub returns : goal.returns
returns c = λ x h. get_or-replicate 256 x 0 0 h
