use Rattle.std.proofs.Common.{◌≡◌, None, false, subst, arith}
use Rattle.day_import.specs.Readers.{HasReadOn}
use Rattle.day_import.proofs.ReaderLaws.{read_more, read_stopped}
use Rattle.day_import.proofs.reading.read_rest.Goals as goal

pub returns-in-Some-clause-read_on : goal.returns-in-Some-clause-read_on
returns-in-Some-clause-read_on g c first all h = read_stopped _ c.in-Some.stop _ _ _ _ _ _

pub returns-in-Ok-clause-read_on : goal.returns-in-Ok-clause-read_on
returns-in-Ok-clause-read_on g c first all h =
    let none : c.args.stop ≡ None = cc in
    read_more c.args.count _ _ first _ _ all _ _
    (subst (λ s. HasReadOn false s c.args.count c.args.these.now.items first c.args.ahead.now all
    (g.S.Source.left c.args.source.now)) none h) c.in-Ok.ensures.gathered

pub returns-in-Err-clause-read_on : goal.returns-in-Err-clause-read_on
returns-in-Err-clause-read_on g c first all h = read_stopped _ c.in-Err.stop _ _ _ _ _ _

pub returns-in-Err-clause-cause : goal.returns-in-Err-clause-cause
returns-in-Err-clause-cause g c before had low is =
    let rose = c.gather_on.ensures.cause cc in omega (arith, rose, low)
