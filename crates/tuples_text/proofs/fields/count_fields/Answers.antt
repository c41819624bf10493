use Rattle.std.proofs.Common.{arith}
use Rattle.tuples_text.proofs.TextLaws.{count_commas}
use Rattle.tuples_text.proofs.fields.count_fields.Goals as goal

pub returns-clause-count : goal.returns-clause-count
returns-clause-count c = omega (arith, count_commas c.args.text.now, c.count_commas.ensures)
