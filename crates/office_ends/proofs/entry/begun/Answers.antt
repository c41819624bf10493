use Rattle.std.proofs.Common.{◌∙◌}
use Rattle.office_ends.proofs.EndingLaws.{ended_so, halted}
use Rattle.office_ends.proofs.entry.begun.Goals as goal

pub returns-in-Ok-clause-does : goal.returns-in-Ok-clause-does
returns-in-Ok-clause-does g c = λ o told.
    ended_so g.K.Keeper.refuses c.args.count c.args.base o c.in-Ok.unfit (g.K.Keeper.told c.renew-done.new.keeper)
    c.renew-done.result c.ended.result (c.in-Ok.ensures.says o told)
    (c.renew-done.ensures.does o (c.find_unfit.ensures.kept ∙ told)) c.ended.ensures

pub returns-in-Ok-clause-halts : goal.returns-in-Ok-clause-halts
returns-in-Ok-clause-halts g c = λ o fault told is.
    halted g.K.Keeper.refuses c.args.count c.args.base o c.in-Ok.unfit (g.K.Keeper.told c.renew-done.new.keeper)
    c.renew-done.result c.ended.result fault (c.renew-done.ensures.does o (c.find_unfit.ensures.kept ∙ told))
    c.ended.ensures is
