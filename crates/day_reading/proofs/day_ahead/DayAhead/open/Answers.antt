use Rattle.std.proofs.Common.{◌∙◌, sym, subst}
use Rattle.day_reading.specs.Readings.{HasReadOf}
use Rattle.day_reading.proofs.BoundLaws.{day_within}
use Rattle.day_reading.proofs.day_ahead.DayAhead.open.Goals as goal

pub returns-in-Ok-look-clause-read : goal.returns-in-Ok-look-clause-read
returns-in-Ok-look-clause-read g c = λ bytes told.
    let lines = c.args.limits.now.lines in
    c.look.ensures.read lines bytes
    (subst (λ o. HasReadOf c.in-Ok.reader lines o bytes) (sym told) (c.in-Ok.ensures.read bytes))

pub returns-in-Ok-look-clause-bounded : goal.returns-in-Ok-look-clause-bounded
returns-in-Ok-look-clause-bounded g c = λ bytes told.
    let limits = c.args.limits.now in
    day_within c.look.new.reader limits (g.S.Source.left c.look.new.source) bytes
    (c.look.ensures.read limits.lines bytes
    (subst (λ o. HasReadOf c.in-Ok.reader limits.lines o bytes) (sym told) (c.in-Ok.ensures.read bytes)))

pub returns-in-Err-clause-bounded : goal.returns-in-Err-clause-bounded
returns-in-Err-clause-bounded g c = λ bytes told.
    let limits = c.args.limits.now in
    day_within c.look.new.reader limits (g.S.Source.left c.look.new.source) bytes
    (c.look.ensures.read limits.lines bytes
    (subst (λ o. HasReadOf c.in-Ok.reader limits.lines o bytes) (sym told) (c.in-Ok.ensures.read bytes)))

pub returns-in-Ok-look-clause-digested : goal.returns-in-Ok-look-clause-digested
returns-in-Ok-look-clause-digested g c = c.look.ensures.digested ∙ c.in-Ok.ensures.digested
