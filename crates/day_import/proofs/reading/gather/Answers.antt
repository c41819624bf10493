use Rattle.std.proofs.Common.{◌≡◌, [], length, refl, sym, ap, subst, arith, rules}
use Rattle.day_import.specs.Readers.{HasGiven}
use Rattle.day_import.proofs.ReaderLaws.{given_none}
use Rattle.day_import.proofs.reading.gather.Goals as goal

pub returns-in-Ok-clause-given : goal.returns-in-Ok-clause-given
returns-in-Ok-clause-given g c limits late =
    let was = g.S.Source.left c.args.source.now in
    let old = c.args.ahead.now in
    let none : c.clear.new.self.items ≡ [] = search rules in
    c.in-Ok.ensures.gathered.given limits late old was
    (subst (λ xs. HasGiven limits late xs old old was was) (sym none) (given_none limits late old was))

pub returns-in-Ok-clause-few : goal.returns-in-Ok-clause-few
returns-in-Ok-clause-few g c =
    let none : c.clear.new.self.items ≡ [] = search rules in
    c.in-Ok.ensures.gathered.few (let l = ap length none in omega (arith, l))

pub returns-in-Ok-clause-some : goal.returns-in-Ok-clause-some
returns-in-Ok-clause-some g c more one =
    let none : c.clear.new.self.items ≡ [] = search rules in
    let l = ap length none in
    let some = c.in-Ok.ensures.gathered.some refl more (omega (arith, l, one)) in
    omega (arith, some)

pub returns-in-Ok-clause-full : goal.returns-in-Ok-clause-full
returns-in-Ok-clause-full g c less = c.in-Ok.ensures.gathered.full refl less
