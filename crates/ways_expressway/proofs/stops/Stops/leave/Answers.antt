use Rattle.std.proofs.Common.{◌∷◌, [], ◌++◌, false, refl, sym, ap, subst, ◌∙◌, ◌-◌, cond, nat_eq}
use Rattle.ways_expressway.specs.KeptAccidents.{KeptStops, has_stopped, how_many_at, spell_of}
use Rattle.ways_expressway.specs.AccidentsStand.{StandsFor}
use Rattle.ways_expressway.proofs.EntryChanges.{stand_leaves}
use Rattle.ways_expressway.proofs.stops.Stops.leave.Goals as goal

pub returns-then-swap_remove-clause-left : goal.returns-then-swap_remove-clause-left
returns-then-swap_remove-clause-left c = λ es.
    let f : KeptStops =
    record {
      second = c.self.inside.second;
      standing = c.self.inside.standing.keys;
      counts =
          c.self.inside.counts.entries;
      spells = c.self.inside.spells.entries;
    } in
    subst (λ (x : KeptStops). StandsFor x es → StandsFor
    (record {
      second = f.second;
      standing = c.swap_remove.new.self.keys;
      counts =
          c.one_less.new.counts.entries;
      spells = c.end_if.new.spells.entries;
    })
    (es ++ record { second = x.second; vid = c.args.vid; place = c.args.place; stops = false } ∷ [])) c.self.view_is
    (λ st. stand_leaves f.second (has_stopped f.standing) (how_many_at f.counts) (spell_of f.spells) es st c.args.vid
    c.args.place false
    (has_stopped c.swap_remove.new.self.keys) (how_many_at c.one_less.new.counts.entries)
    (spell_of c.end_if.new.spells.entries) c.stretch.result c.stretch.ensures
    (λ p v. c.swap_remove.ensures.updates.0 (record { vid = v; place = p }))
    c.end_if.ensures.others c.end_if.ensures.history refl
    (sym c.swap_remove.ensures.found ∙ c.if-swap_remove.true)
    c.one_less.ensures
    (c.end_if.ensures.places
    ∙ ap (λ n. (spell_of f.spells c.stretch.result).places - cond (nat_eq n 2) 1 0) c.count_at-count.ensures))
