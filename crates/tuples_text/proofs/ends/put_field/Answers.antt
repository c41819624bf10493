use Rattle.std.proofs.Common.{arith, rules}
use Rattle.tuples_text.proofs.NoticeLaws.{few_digits}
use Rattle.tuples_text.proofs.ends.put_field.Goals as goal

pub write_digits-at-requires : goal.write_digits-at-requires
write_digits-at-requires c = let few = few_digits c.args.n (search rules) in (omega arith, c.requires.inside)

pub put_byte-requires-clause-some : goal.put_byte-requires-clause-some
put_byte-requires-clause-some c = let few = few_digits c.args.n (search rules) in
    omega (arith, c.write_digits-at.ensures.start)

pub returns-clause-low : goal.returns-clause-low
returns-clause-low c = let few = few_digits c.args.n (search rules) in
    omega (arith, c.write_digits-at.ensures.start, c.put_byte.ensures.start)
