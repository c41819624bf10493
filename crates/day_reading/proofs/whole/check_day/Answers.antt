use Rattle.std.proofs.Common.{[], refl}
use Rattle.std.proofs.lemmas.Result.{IfOk-weaker}
use Rattle.day_reading.specs.Checking.{ChecksOn}
use Rattle.day_reading.proofs.whole.check_day.Goals as goal

pub returns-clause-exact : goal.returns-clause-exact
returns-clause-exact g c = λ bytes told.
    let start : ChecksOn c.new-checker.result c.args.limits.now c.args.late (g.S.Source.left c.args.source.now) bytes =
    record { taken = []; now = bytes; left_is = told; bytes_are = refl; has_checked = c.new-checker.ensures } in
    IfOk-weaker c.check_on.result _ _ (λ tally t. t.0)
    (c.check_on.ensures.exact c.args.limits.now c.args.late bytes start)

pub returns-clause-left : goal.returns-clause-left
returns-clause-left g c = λ bytes told.
    let start : ChecksOn c.new-checker.result c.args.limits.now c.args.late (g.S.Source.left c.args.source.now) bytes =
    record { taken = []; now = bytes; left_is = told; bytes_are = refl; has_checked = c.new-checker.ensures } in
    IfOk-weaker c.check_on.result _ _ (λ tally t. t.1)
    (c.check_on.ensures.exact c.args.limits.now c.args.late bytes start)
