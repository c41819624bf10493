use Rattle.std.proofs.Common.{length, arith, ap}
use Rattle.tuples_text.proofs.TextLaws.{without_short}
use Rattle.day_past.proofs.lines.read_row.Goals as goal

pub read_text-requires-clause-few : goal.read_text-requires-clause-few
read_text-requires-clause-few c =
    omega (arith, ap length c.trimmed.ensures, without_short c.args.line.now, c.requires.few)
