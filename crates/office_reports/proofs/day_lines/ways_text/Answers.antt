use Rattle.std.proofs.Common.{◌++◌, ap, sym, ◌∙◌, get_or, ℕ}
use Rattle.office_reports.specs.Statements.{ways_text}
use Rattle.office_reports.proofs.WayLaws.{ways_none, ways_more}
use Rattle.office_reports.proofs.day_lines.ways_text.Goals as goal

pub loop-xway-init : goal.loop-xway-init
loop-xway-init c = c.new-text.ensures.items ∙ sym (ways_none (λ x. get_or c.args.sums.now x 0))

pub loop-xway-preserved : goal.loop-xway-preserved
loop-xway-preserved c =
    let sums : ℕ → ℕ = λ x. get_or c.args.sums.now x 0 in
    let xway = c.loop-xway.xway in
    c.in_ok-extend_from_slice.ensures.items
    ∙ ap (λ t. t ++ c.as_bytes.result.now) c.loop-xway.invariant
    ∙ ap (λ b. ways_text sums xway ++ b) (c.as_bytes.ensures.value ∙ c.in_ok-line.ensures)
    ∙ sym (ways_more sums xway)
