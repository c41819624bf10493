use Rattle.std.proofs.Common.{◌≤◌, subst}
use Rattle.ways_expressway.specs.KeptAccidents.{KeptStops, has_stopped, how_many_at, spell_of}
use Rattle.ways_expressway.specs.AccidentsStand.{StandsFor, Stand}
use Rattle.ways_expressway.proofs.Changes.{stand_later}
use Rattle.ways_expressway.proofs.stops.Stops.advance.Goals as goal

pub returns-clause-kept : goal.returns-clause-kept
returns-clause-kept c = λ es.
    let f : KeptStops =
    record {
      second = c.self.inside.second;
      standing = c.self.inside.standing.keys;
      counts =
          c.self.inside.counts.entries;
      spells = c.self.inside.spells.entries;
    } in
    subst (λ (x : KeptStops). x.second ≤ c.args.second → StandsFor x es →
    Stand c.args.second (has_stopped f.standing) (how_many_at f.counts) (spell_of f.spells) es) c.self.view_is
    (λ le st. stand_later f.second (has_stopped f.standing) (how_many_at f.counts) (spell_of f.spells) es st
    c.args.second
    le) c.requires
