use Rattle.std.proofs.Common.{arith}
use Rattle.serve_requests.proofs.PlainLaws.{word_plain}
use Rattle.serve_requests.proofs.bodies.is_word.Goals as goal

pub returns : goal.returns
returns c = λ w e. word_plain w c.args.n e (omega (arith, c.ranges.n.fits))
