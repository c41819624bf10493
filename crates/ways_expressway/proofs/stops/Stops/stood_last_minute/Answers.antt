use Rattle.std.proofs.Common.{ap, ◌∙◌}
use Rattle.ways_expressway.specs.History.{stood_last}
use Rattle.ways_expressway.specs.KeptAccidents.{KeptStops, spell_of}
use Rattle.ways_expressway.proofs.StoodLaws.{stood_in_is}
use Rattle.ways_expressway.proofs.stops.Stops.stood_last_minute.Goals as goal

pub returns-clause-kept : goal.returns-clause-kept
returns-clause-kept c =
    c.stood_before.ensures ∙ ap (stood_last c.self.inside.second) c.spell_at.ensures
    ∙ ap (λ (x : KeptStops). stood_last x.second (spell_of x.spells c.args.stretch)) c.self.view_is

pub returns-clause-exact : goal.returns-clause-exact
returns-clause-exact c = λ es st.
    c.stood_before.ensures ∙ ap (stood_last c.self.inside.second) c.spell_at.ensures
    ∙ ap (λ (x : KeptStops). stood_last x.second (spell_of x.spells c.args.stretch)) c.self.view_is
    ∙ stood_in_is c.args.self.now es st c.args.stretch
