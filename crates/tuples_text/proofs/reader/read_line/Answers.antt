use Rattle.std.proofs.Common.{length, arith, ap}
use Rattle.tuples_text.proofs.TextLaws.{without_short}
use Rattle.tuples_text.proofs.reader.read_line.Goals as goal

pub read_text-requires : goal.read_text-requires
read_text-requires c = omega (arith, ap length c.trimmed-text.ensures, without_short c.args.line.now)
