use Rattle.std.proofs.Common.{◌+◌, ◌-◌, length, drop, arith}
use Rattle.std.proofs.lemmas.List.{take_all, length-drop}
use Rattle.day_reading.proofs.checker.behind.Goals as goal

pub returns : goal.returns
returns c =
    let bytes = c.args.bytes.now in
    let n = c.args.at + 1 in
    take_all (length bytes - n) (drop n bytes) (omega (arith, length-drop n bytes))
