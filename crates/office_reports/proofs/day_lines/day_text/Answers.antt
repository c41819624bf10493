use Rattle.std.proofs.Common.{◌++◌, ap, ◌∙◌, get_or}
use Rattle.office_reports.specs.Statements.{sum_on, record_text}
use Rattle.office_reports.proofs.WayLaws.{ways_same}
use Rattle.office_reports.proofs.day_lines.day_text.Goals as goal

pub returns : goal.returns
returns c =
    let ways = c.as_slice.ensures.value ∙ c.in_ok-ways.ensures
    ∙ ways_same (λ x. get_or c.way_sums.result x 0) (sum_on c.args.rows.now) 256 c.way_sums.ensures in
    c.in_ok-extend_from_slice.ensures.items ∙ ap (λ t. t ++ c.as_slice.result.now) c.in_ok-text.ensures
    ∙ ap (λ w. record_text c.args.kept.now ++ w) ways
