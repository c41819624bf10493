use Rattle.std.proofs.Common.{subst, rules}
use Rattle.day_reading.specs.Ahead.{HasReadAhead}
use Rattle.day_import.proofs.reading.gather_on.Goals as goal

pub returns-in-Ok-clause-read : goal.returns-in-Ok-clause-read
returns-in-Ok-clause-read g c lines bytes h =
    subst (λ left. HasReadAhead c.gather_watched-gathered.new.ahead lines left bytes) (search rules)
    (c.gather_watched-gathered.ensures.read lines bytes h)

pub returns-in-Err-clause-read : goal.returns-in-Err-clause-read
returns-in-Err-clause-read g c lines bytes h =
    subst (λ left. HasReadAhead c.gather_watched-gathered.new.ahead lines left bytes) (search rules)
    (c.gather_watched-gathered.ensures.read lines bytes h)
