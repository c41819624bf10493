use Rattle.std.proofs.Common.{◌≡◌, ◌<◌, length, arith, sym, ap, ◌∙◌}
use Rattle.std.proofs.lemmas.Bool.{eqb-false}
use Rattle.road_time.specs.Numbers.{fields_of_text}
use Rattle.road_time.specs.Form.{first_odd}
use Rattle.tuples_text.specs.Causes.{reader_answer}
use Rattle.tuples_text.proofs.TextLaws.{form_of_fields, form_of_count, numbered_ok, numbered_err}
use Rattle.tuples_text.proofs.reader.read_text.Goals as goal

pub returns-then-count-ne15 : goal.returns-then-count-ne15
returns-then-count-ne15 c =
    let bs = c.args.text.now in
    let some : 0 < length bs = omega (arith, eqb-false (length bs) 0 (sym c.is_empty.ensures ∙ c.if-is_empty.false)) in
    sym (ap reader_answer
    (form_of_count bs c.count_fields-count.result some (sym c.count_fields-count.ensures.count)
    c.if-count-ne15.true))

pub returns-in-Err : goal.returns-in-Err
returns-in-Err c =
    let bs = c.args.text.now in
    let fields = fields_of_text bs in
    let count : length fields ≡ 15 = omega (arith, c.count_fields-count.ensures.count) in
    sym (ap reader_answer (form_of_fields bs count)
    ∙ numbered_err fields (first_odd fields) c.in-Err.cause (sym c.numbers.ensures ∙ c.in-Err.is))

pub returns-in-Ok : goal.returns-in-Ok
returns-in-Ok c =
    let bs = c.args.text.now in
    let fields = fields_of_text bs in
    let count : length fields ≡ 15 = omega (arith, c.count_fields-count.ensures.count) in
    c.tuple.ensures
    ∙ ap reader_answer
    (sym (form_of_fields bs count
    ∙ numbered_ok fields (first_odd fields) c.in-Ok.numbers (sym c.numbers.ensures ∙ c.in-Ok.is)))
