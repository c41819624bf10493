use Rattle.std.proofs.Common.{ap, ◌∙◌}
use Rattle.ways_expressway.specs.History.{stood_last}
use Rattle.ways_expressway.proofs.StoodLaws.{last_put}
use Rattle.ways_expressway.proofs.recent.begin_if.Goals as goal

pub returns-in_ok-insert-clause-last : goal.returns-in_ok-insert-clause-last
returns-in_ok-insert-clause-last c =
    last_put c.args.second c.args.spells.now.entries c.insert.new.self.entries c.args.stretch c.in_ok-spell.spell
    (λ k. c.in_ok-insert.ensures.updates.0 k)
    (c.in_ok-spell.ensures.last ∙ ap (stood_last c.args.second) c.spell_at.ensures)
