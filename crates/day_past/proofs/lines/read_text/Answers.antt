use Rattle.std.proofs.Common.{◌≡◌, ◌<◌, length, arith, sym, subst, ◌∙◌}
use Rattle.std.proofs.lemmas.Bool.{eqb-false}
use Rattle.road_time.specs.Numbers.{fields_of_text}
use Rattle.day_past.specs.Causes.{ReadsRow}
use Rattle.day_past.proofs.LineLaws.{form_of_four}
use Rattle.day_past.proofs.lines.read_text.Goals as goal

pub returns-in-Ok-clause-reads : goal.returns-in-Ok-clause-reads
returns-in-Ok-clause-reads c =
    let bs = c.args.text.now in
    let ns = c.in-Ok.numbers in
    let base = c.args.base in
    let some : 0 < length bs = omega (arith, eqb-false (length bs) 0 (sym c.is_empty.ensures ∙ c.if-is_empty.false)) in
    let four : length (fields_of_text bs) ≡ 4 = omega (arith, c.count_fields-count.ensures.count) in
    let form = form_of_four base bs ns four (sym c.numbers.ensures ∙ c.in-Ok.is) some in
    subst (λ f. ReadsRow f c.row_of.result) (sym form) c.row_of.ensures.reads
