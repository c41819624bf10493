use Rattle.std.proofs.Common.{◌≡◌, ◌∷◌, [], ◌++◌, true, refl, sym, ap, subst, ◌∙◌, ◌+◌, cond, nat_eq, rules}
use Rattle.std.proofs.lemmas.Bool.{false≢true}
use Rattle.road_time.specs.Tuples.{same_place}
use Rattle.ways_expressway.specs.KeptAccidents.{KeptStops, same_stopped, has_stopped, how_many_at, spell_of}
use Rattle.ways_expressway.specs.AccidentsStand.{StandsFor}
use Rattle.ways_expressway.proofs.Changes.{counted_put}
use Rattle.ways_expressway.proofs.EntryChanges.{stand_idle, stand_stops}
use Rattle.ways_expressway.proofs.stops.Stops.stop.Goals as goal

pub returns-then-contains-clause-stopped : goal.returns-then-contains-clause-stopped
returns-then-contains-clause-stopped c = λ es st.
    let s = c.args.self.now in
    stand_idle s.second (has_stopped s.standing) (how_many_at s.counts) (spell_of s.spells) es st c.args.vid
    c.args.place
    true
    (sym (c.contains.ensures ∙ ap (λ (x : KeptStops). has_stopped x.standing c.args.place c.args.vid) c.self.view_is)
    ∙ c.if-contains.true)

pub returns-clause-idle : goal.returns-clause-idle
returns-clause-idle c =
    λ there. absurd
    (false≢true
    (sym c.if-contains.false ∙ c.contains.ensures
    ∙ ap (λ (s : KeptStops). has_stopped s.standing c.args.place c.args.vid) c.self.view_is ∙ there))

pub returns-clause-stopped : goal.returns-clause-stopped
returns-clause-stopped c = λ es.
    let f : KeptStops =
    record {
      second = c.self.inside.second;
      standing = c.self.inside.standing.keys;
      counts =
          c.self.inside.counts.entries;
      spells = c.self.inside.spells.entries;
    } in
    let p0 = c.args.place in
    let more : c.in_ok-more.more ≡ how_many_at f.counts p0 + 1 = search rules in
    subst (λ (x : KeptStops). StandsFor x es → StandsFor
    (record {
      second = f.second;
      standing = c.insert-2.new.self.keys;
      counts = c.insert.new.self.entries;
      spells =
          c.begin_if.new.spells.entries;
    })
    (es ++ record { second = x.second; vid = c.args.vid; place = p0; stops = true } ∷ [])) c.self.view_is
    (λ st. stand_stops f.second (has_stopped f.standing) (how_many_at f.counts) (spell_of f.spells) es st c.args.vid p0
    true
    (has_stopped c.insert-2.new.self.keys) (how_many_at c.insert.new.self.entries)
    (spell_of c.begin_if.new.spells.entries)
    c.stretch.result c.stretch.ensures
    (λ p v. c.in_ok-insert-2.ensures.updates.0 (record { vid = v; place = p })
    ∙ ap (λ ks. cond (same_stopped (record { vid = c.args.vid; place = p0 }) (record { vid = v; place = p })) true
    (has_stopped ks p v)) c.reserve.ensures.keys)
    c.in_ok-begin_if.ensures.others c.in_ok-begin_if.ensures.history refl
    (sym c.contains.ensures ∙ c.if-contains.false)
    (λ p. counted_put (same_place p0 p) c.in_ok-more.more _ _ (c.in_ok-insert.ensures.updates.0 p)
    ∙ ap (λ es. cond (same_place p0 p) c.in_ok-more.more (how_many_at es p)) c.reserve-2.ensures.entries
    ∙ ap (λ n. cond (same_place p0 p) n (how_many_at f.counts p)) more)
    (c.in_ok-begin_if.ensures.places
    ∙ ap (λ n. (spell_of f.spells c.stretch.result).places + cond (nat_eq n 1) 1 0) c.count_at-count.ensures))
