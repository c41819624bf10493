use Rattle.std.proofs.Common.{◌≡◌, ◌<◌, ◌∙◌, length, sym, Ok, Err, Some, None, arith}
use Rattle.std.proofs.lemmas.Result.{IfOk-weaker}
use Rattle.road_time.specs.Lines.{without_cr}
use Rattle.road_time.specs.Form.{form}
use Rattle.road_time.specs.Reads.{tuples_of}
use Rattle.day_reading.proofs.JudgeLaws.{form_of_ok, none_is, form_is, tuple_is}
use Rattle.day_reading.proofs.judging.judge.Goals as goal

pub returns-in-Ok-Some : goal.returns-in-Ok-Some
returns-in-Ok-Some c = λ limits late c' limit good stands.
    let text = c.args.text.now in
    let few : length c'.kept < limits.lines = omega (arith, limit, good, c.if-good-from.false, c.from.ensures) in
    let some : c.read_line.result ≡ Ok (Some c.in-Ok-Some.tuple) = cc in
    let formed = form_of_ok (form (without_cr text)) (Some c.in-Ok-Some.tuple) (sym c.read_line.ensures ∙ some) in
    IfOk-weaker c.admit.result _ _
    (λ cause h. tuple_is limits late c' text c.admit.new.gate c.if-text-gt200.false few c.in-Ok-Some.tuple cause formed h)
    (c.admit.ensures limits late (tuples_of c'.kept) stands)

pub returns-in-Ok-None : goal.returns-in-Ok-None
returns-in-Ok-None c = λ limits late c' limit good stands.
    let text = c.args.text.now in
    let few : length c'.kept < limits.lines = omega (arith, limit, good, c.if-good-from.false, c.from.ensures) in
    let none : c.read_line.result ≡ Ok None = cc in
    none_is limits late c' text c.args.gate.now c.if-text-gt200.false few
    (form_of_ok (form (without_cr text)) None (sym c.read_line.ensures ∙ none)) stands

pub returns-in-Err : goal.returns-in-Err
returns-in-Err c = λ limits late c' limit good stands.
    let few : length c'.kept < limits.lines = omega (arith, limit, good, c.if-good-from.false, c.from.ensures) in
    let err : c.read_line.result ≡ Err c.in-Err.cause = cc in
    form_is limits late c' c.args.text.now c.args.gate.now c.if-text-gt200.false few c.in-Err.cause
    (sym c.read_line.ensures ∙ err) stands
