use Rattle.std.proofs.Common.{arith}
use Rattle.serve_requests.proofs.PlainLaws.{words_plain}
use Rattle.serve_requests.proofs.bodies.are_words.Goals as goal

pub returns : goal.returns
returns c = λ w e. words_plain w c.args.m c.args.n e (omega (arith, c.ranges.m.fits)) (omega (arith, c.ranges.n.fits))
