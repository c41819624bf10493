use Rattle.std.proofs.Common.{◌++◌, [], take, drop}
use Rattle.day_reading.proofs.CompareLaws.{front_more}
use Rattle.day_reading.proofs.first_bytes.take_one_more.Goals as goal

pub returns-in-Ok-clause-found : goal.returns-in-Ok-clause-found
returns-in-Ok-clause-found g c = λ all told.
    let first = c.in_default.ensures.took all [] told c.new-digester.ensures in
    let then = c.in-Ok.ensures.took (drop c.args.bytes all) ([] ++ take c.args.bytes all) first.1 first.0 in
    let whole =
    front_more c.args.bytes all c.take_front-2.new.digester (g.S.Source.left c.take_front-2.new.source) then in
    (c.finish.ensures _ whole.0, whole.1)
