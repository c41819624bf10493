use Rattle.std.proofs.Common.{arith}
use Rattle.ways_expressway.proofs.Spells.{history_ended}
use Rattle.ways_expressway.proofs.spell.without_place.Goals as goal

pub returns-else-spell-gt1-clause-history : goal.returns-else-spell-gt1-clause-history
returns-else-spell-gt1-clause-history c = λ f h.
    history_ended c.args.second c.args.spell f _ _ _ _ (omega arith) h c.earlier.ensures c.lately.ensures
    c.mark_if-last.ensures c.mark_if-before.ensures
