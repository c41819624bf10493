use Rattle.keep_office.specs.Renewals.{renew_answer}
use Rattle.keep_office.proofs.RenewLaws.{all_or_nothing}
use Rattle.keep_office.proofs.renewing.renew.Goals as goal

pub returns-clause-whole : goal.returns-clause-whole
returns-clause-whole g c = λ o told.
    all_or_nothing g.K.Keeper.refuses c.args.base o (g.K.Keeper.told c.begin_above.new.keeper) c.begin_above.result
    (c.begin_above.ensures.does o told)
