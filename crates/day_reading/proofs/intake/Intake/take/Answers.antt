use Rattle.std.proofs.Common.{◌≡◌, ◌≤◌, ◌∙◌, sym, subst, Ok, Err, Some, None, arith}
use Rattle.road_time.specs.Lines.{without_cr}
use Rattle.road_time.specs.Form.{form}
use Rattle.day_reading.specs.declared.ending.Ending.{Ending}
use Rattle.day_reading.specs.Lines.{TakesLine}
use Rattle.day_reading.proofs.IntakeLaws.{form_of_ok, line_of_tuple, line_of_none, line_of_err}
use Rattle.day_reading.proofs.intake.Intake.take.Goals as goal

pub returns-in-Ok-Some-clause-takes : goal.returns-in-Ok-Some-clause-takes
returns-in-Ok-Some-clause-takes c = λ limits late is.
    let within : c.args.line ≤ limits.lines = omega (arith, is, c.if-line-from.false, c.from.ensures) in
    let some : c.read_line.result ≡ Ok (Some c.in-Ok-Some.tuple) = cc in
    let formed =
    form_of_ok (form (without_cr c.args.text.now)) (Some c.in-Ok-Some.tuple) (sym c.read_line.ensures ∙ some) in
    line_of_tuple limits late c.args.line c.args.text.now c.requires within c.take_tuple.result c.in-Ok-Some.tuple _ _ _
    _ formed (c.take_tuple.ensures.takes limits late)

pub returns-in-Ok-None-clause-takes : goal.returns-in-Ok-None-clause-takes
returns-in-Ok-None-clause-takes c = λ limits late is.
    let within : c.args.line ≤ limits.lines = omega (arith, is, c.if-line-from.false, c.from.ensures) in
    let none : c.read_line.result ≡ Ok None = cc in
    let formed = form_of_ok (form (without_cr c.args.text.now)) None (sym c.read_line.ensures ∙ none) in
    line_of_none limits late c.args.line c.args.text.now c.requires within c.args.self.now.gate c.args.self.now.sorter
    formed

pub returns-in-Err-clause-takes : goal.returns-in-Err-clause-takes
returns-in-Err-clause-takes c = λ limits late is.
    let within : c.args.line ≤ limits.lines = omega (arith, is, c.if-line-from.false, c.from.ensures) in
    let err : c.read_line.result ≡ Err c.in-Err.cause = cc in
    subst (λ (e : Ending). TakesLine limits late (Some e) c.args.line c.args.text.now c.args.self.now.gate
    c.args.self.now.gate c.args.self.now.sorter c.args.self.now.sorter) (sym c.refused-in-Err.ensures)
    (line_of_err limits late c.args.line c.args.text.now c.requires within c.args.self.now.gate c.args.self.now.sorter
    c.in-Err.cause (sym c.read_line.ensures ∙ err))
