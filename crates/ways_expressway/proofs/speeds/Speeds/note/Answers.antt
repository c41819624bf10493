use Rattle.std.proofs.Common.{rules, ◌≡◌, cond, arith, refl, sym, ap, subst, ◌∙◌, Some}
use Rattle.std.specs.Map.{lookup}
use Rattle.std.proofs.lemmas.Map.Steps.{set_value_same}
use Rattle.std.proofs.lemmas.Result.{err_from_is_err_and}
use Rattle.road_time.specs.Tuples.{same_stretch}
use Rattle.ways_expressway.specs.KeptSpeeds.{KeptSpeeds}
use Rattle.ways_expressway.specs.Parts.{IsSmall, AreSmall, grown, flow_of, flow_in, sum_in, no_flow}
use Rattle.ways_expressway.proofs.NoteSteps.{total_few, count_few, speeds_few, part_few, cars_few, noted_as, grown_small}
use Rattle.ways_expressway.proofs.NoteParts.{kept_made, small_after, ring_small}
use Rattle.ways_expressway.proofs.PastLaws.{past_put}
use Rattle.ways_expressway.proofs.speeds.Speeds.note.Goals as goal

pub add-requires-clause-total : goal.add-requires-clause-total
add-requires-clause-total c =
    let one = c.requires.one in
    rw (ap (λ (s : KeptSpeeds). s.seen) c.self.view_is)
    (total_few c.args.self.now one.0 one.1 c.args.stretch c.args.vid c.args.spd one.2)

pub add-requires-clause-count : goal.add-requires-clause-count
add-requires-clause-count c =
    let one = c.requires.one in
    rw (ap (λ (s : KeptSpeeds). s.seen) c.self.view_is)
    (count_few c.args.self.now one.0 one.1 c.args.stretch c.args.vid c.args.spd one.2)

pub add-requires-in-None-clause-total : goal.add-requires-in-None-clause-total
add-requires-in-None-clause-total c =
    let one = c.requires.one in
    rw (ap (λ (s : KeptSpeeds). s.seen) c.self.view_is)
    (total_few c.args.self.now one.0 one.1 c.args.stretch c.args.vid c.args.spd one.2)

pub add-requires-in-None-clause-count : goal.add-requires-in-None-clause-count
add-requires-in-None-clause-count c =
    let one = c.requires.one in
    rw (ap (λ (s : KeptSpeeds). s.seen) c.self.view_is)
    (count_few c.args.self.now one.0 one.1 c.args.stretch c.args.vid c.args.spd one.2)

pub grown-requires-clause-total : goal.grown-requires-clause-total
grown-requires-clause-total c =
    let one = c.requires.one in
    rw (c.in_ok-before-in-Some.ensures.before
    ∙ ap (λ (s : KeptSpeeds). sum_in s.seen (record { stretch = c.args.stretch; vid = c.args.vid })) c.self.view_is)
    (total_few c.args.self.now one.0 one.1 c.args.stretch c.args.vid c.args.spd one.2)

pub grown-requires-clause-count : goal.grown-requires-clause-count
grown-requires-clause-count c =
    let one = c.requires.one in
    rw (c.in_ok-before-in-Some.ensures.before
    ∙ ap (λ (s : KeptSpeeds). sum_in s.seen (record { stretch = c.args.stretch; vid = c.args.vid })) c.self.view_is)
    (count_few c.args.self.now one.0 one.1 c.args.stretch c.args.vid c.args.spd one.2)

pub grown-requires-in-None-clause-total : goal.grown-requires-in-None-clause-total
grown-requires-in-None-clause-total c =
    let one = c.requires.one in
    rw (c.in_ok-before-in-None.ensures.before
    ∙ ap (λ (s : KeptSpeeds). sum_in s.seen (record { stretch = c.args.stretch; vid = c.args.vid })) c.self.view_is)
    (total_few c.args.self.now one.0 one.1 c.args.stretch c.args.vid c.args.spd one.2)

pub grown-requires-in-None-clause-count : goal.grown-requires-in-None-clause-count
grown-requires-in-None-clause-count c =
    let one = c.requires.one in
    rw (c.in_ok-before-in-None.ensures.before
    ∙ ap (λ (s : KeptSpeeds). sum_in s.seen (record { stretch = c.args.stretch; vid = c.args.vid })) c.self.view_is)
    (count_few c.args.self.now one.0 one.1 c.args.stretch c.args.vid c.args.spd one.2)

pub grown-requires-clause-cars : goal.grown-requires-clause-cars
grown-requires-clause-cars c =
    let one = c.requires.one in
    let at : c.at.result ≡ flow_in c.args.self.now.rings c.args.stretch c.args.self.now.minute = c.at.ensures
    ∙ ap (λ o. flow_of o c.self.inside.minute) c.in-Some.ensures.value
    ∙ ap (λ (s : KeptSpeeds). flow_in s.rings c.args.stretch s.minute) c.self.view_is in
    rw at (cars_few c.args.self.now one.0 one.1 c.args.stretch c.args.vid c.args.spd c.args.self.now.minute
    (omega arith))

pub grown-requires-clause-speeds : goal.grown-requires-clause-speeds
grown-requires-clause-speeds c =
    let one = c.requires.one in
    let at : c.at.result ≡ flow_in c.args.self.now.rings c.args.stretch c.args.self.now.minute = c.at.ensures
    ∙ ap (λ o. flow_of o c.self.inside.minute) c.in-Some.ensures.value
    ∙ ap (λ (s : KeptSpeeds). flow_in s.rings c.args.stretch s.minute) c.self.view_is in
    rw at (speeds_few c.args.self.now one.0 one.1 c.args.stretch c.args.vid c.args.spd)

pub grown-requires-clause-part : goal.grown-requires-clause-part
grown-requires-clause-part c =
    let one = c.requires.one in
    let at : c.at.result ≡ flow_in c.args.self.now.rings c.args.stretch c.args.self.now.minute = c.at.ensures
    ∙ ap (λ o. flow_of o c.self.inside.minute) c.in-Some.ensures.value
    ∙ ap (λ (s : KeptSpeeds). flow_in s.rings c.args.stretch s.minute) c.self.view_is in
    rw (
      at,
      c.in_ok-before-in-Some.ensures.before
          ∙ ap (λ (s : KeptSpeeds). sum_in s.seen (record { stretch = c.args.stretch; vid = c.args.vid }))
          c.self.view_is,
    )
    (part_few c.args.self.now one.0 one.1 c.args.stretch c.args.vid c.args.spd)

pub grown-requires-in-None-clause-part : goal.grown-requires-in-None-clause-part
grown-requires-in-None-clause-part c =
    let one = c.requires.one in
    let none : 0 ≡ (flow_in c.args.self.now.rings c.args.stretch c.args.self.now.minute).speeds12 =
    ap (λ o. (flow_of o c.self.inside.minute).speeds12) c.in-None.ensures.value
    ∙ ap (λ (s : KeptSpeeds). (flow_in s.rings c.args.stretch s.minute).speeds12) c.self.view_is in
    let part = part_few c.args.self.now one.0 one.1 c.args.stretch c.args.vid c.args.spd in
    rw (c.in_ok-before-in-None.ensures.before
    ∙ ap (λ (s : KeptSpeeds). sum_in s.seen (record { stretch = c.args.stretch; vid = c.args.vid })) c.self.view_is)
    (omega (arith, none, part))

pub returns-in_err-before-in-Some-clause-refused : goal.returns-in_err-before-in-Some-clause-refused
returns-in_err-before-in-Some-clause-refused c =
    let p = err_from_is_err_and c.from_residual.result c.from_residual.ensures.1 in
    rw p.1
    (kept_made refl c.in_err-before-in-Some.ensures.refused
    ((c.get_mut.follows.holds c.in-Some.ring.now).0
    ∙ set_value_same (same_stretch c.args.stretch) c.self.inside.rings.entries c.in-Some.ring.now
    (sym c.in-Some.ensures.value))
    ∙ c.self.view_is)

pub returns-in_ok-before-in-Some-clause-noted : goal.returns-in_ok-before-in-Some-clause-noted
returns-in_ok-before-in-Some-clause-noted c = λ notes st can.
    let m = c.self.inside.minute in
    let rings = c.self.inside.rings.entries in
    let at : c.at.result ≡ flow_in rings c.args.stretch m = c.at.ensures
    ∙ ap (λ o. flow_of o m) c.in-Some.ensures.value in
    noted_as (record { minute = m; seen = c.self.inside.seen.entries; rings = rings }) c.args.self.now c.self.view_is
    notes st c.args.stretch c.args.vid c.args.spd c.in-Some.ring.now c.put.new.self
    (λ j. ap (λ o. flow_of o j) c.in-Some.ensures.value)
    (c.put.ensures.here ∙ c.grown.ensures ∙ ap (λ f. grown f c.in_ok-before-in-Some.before c.args.spd) at
    ∙ ap (λ b. grown (flow_in rings c.args.stretch m) b c.args.spd) c.in_ok-before-in-Some.ensures.before)
    c.put.ensures.window c.put.ensures.later _ refl c.requires.slow can c.in_ok-before-in-Some.ensures.sums
    (λ j. ((c.get_mut.follows.holds c.put.new.self).3 (search rules)).0 j)

pub returns-in_ok-insert-in-None-clause-noted : goal.returns-in_ok-insert-in-None-clause-noted
returns-in_ok-insert-in-None-clause-noted c = λ notes st can.
    let m = c.self.inside.minute in
    let rings = c.self.inside.rings.entries in
    let none : no_flow ≡ flow_in rings c.args.stretch m = ap (λ o. flow_of o m) c.in-None.ensures.value in
    let before : c.in_ok-before-in-None.before ≡ sum_in c.self.inside.seen.entries
    (record { stretch = c.args.stretch; vid = c.args.vid }) = c.in_ok-before-in-None.ensures.before in
    let same : c.reserve.new.self.entries ≡ rings = search rules in
    noted_as (record { minute = m; seen = c.self.inside.seen.entries; rings = rings }) c.args.self.now c.self.view_is
    notes st c.args.stretch c.args.vid c.args.spd c.new-ring.result c.put-in-None.new.self
    (λ j. c.new-ring.ensures j ∙ ap (λ o. flow_of o j) c.in-None.ensures.value)
    (c.put-in-None.ensures.here ∙ c.grown-in-None.ensures
    ∙ ap (λ f. grown f c.in_ok-before-in-None.before c.args.spd) none
    ∙ ap (λ b. grown (flow_in rings c.args.stretch m) b c.args.spd) before)
    c.put-in-None.ensures.window c.put-in-None.ensures.later _ refl c.requires.slow can
    c.in_ok-before-in-None.ensures.sums
    (λ j. c.in_ok-insert-in-None.ensures.updates.0 j
    ∙ ap (λ es. cond (same_stretch c.args.stretch j) (Some c.put-in-None.new.self) (lookup (same_stretch j) es))
    same)

pub invariant_of-self : goal.invariant_of-self
invariant_of-self c =
    subst AreSmall
    (sym ((c.get_mut.follows.holds c.in-Some.ring.now).0
    ∙ set_value_same (same_stretch c.args.stretch) c.self.inside.rings.entries c.in-Some.ring.now
    (sym c.in-Some.ensures.value))) c.self.invariant

pub invariant_of-self-in-Some : goal.invariant_of-self-in-Some
invariant_of-self-in-Some c =
    let one = c.requires.one in
    let rings = c.self.inside.rings.entries in
    let at : c.at.result ≡ flow_in c.args.self.now.rings c.args.stretch c.args.self.now.minute = c.at.ensures
    ∙ ap (λ o. flow_of o c.self.inside.minute) c.in-Some.ensures.value
    ∙ ap (λ (s : KeptSpeeds). flow_in s.rings c.args.stretch s.minute) c.self.view_is in
    let before : c.in_ok-before-in-Some.before ≡ sum_in c.args.self.now.seen
    (record { stretch = c.args.stretch; vid = c.args.vid }) = c.in_ok-before-in-Some.ensures.before
    ∙ ap (λ (s : KeptSpeeds). sum_in s.seen (record { stretch = c.args.stretch; vid = c.args.vid })) c.self.view_is in
    let is = c.grown.ensures ∙ ap (λ f. grown f c.in_ok-before-in-Some.before c.args.spd) at
    ∙ ap (λ b. grown (flow_in c.args.self.now.rings c.args.stretch c.args.self.now.minute) b c.args.spd) before in
    let small : IsSmall c.grown.result =
    subst IsSmall (sym is)
    (grown_small c.args.self.now one.0 one.1 c.args.stretch c.args.vid c.args.spd c.requires.slow one.2) in
    small_after rings c.self.invariant c.args.stretch c.put.new.self
    (c.put.ensures.small small
    (λ m. ring_small rings c.self.invariant c.args.stretch c.in-Some.ring.now c.in-Some.ensures.value _ m refl)) _
    (λ j. ((c.get_mut.follows.holds c.put.new.self).3 (search rules)).0 j)

pub invariant_of-self-in-None : goal.invariant_of-self-in-None
invariant_of-self-in-None c =
    let one = c.requires.one in
    let rings = c.self.inside.rings.entries in
    let none : no_flow ≡ flow_in c.args.self.now.rings c.args.stretch c.args.self.now.minute =
    ap (λ o. flow_of o c.self.inside.minute) c.in-None.ensures.value
    ∙ ap (λ (s : KeptSpeeds). flow_in s.rings c.args.stretch s.minute) c.self.view_is in
    let before : c.in_ok-before-in-None.before ≡ sum_in c.args.self.now.seen
    (record { stretch = c.args.stretch; vid = c.args.vid }) = c.in_ok-before-in-None.ensures.before
    ∙ ap (λ (s : KeptSpeeds). sum_in s.seen (record { stretch = c.args.stretch; vid = c.args.vid })) c.self.view_is in
    let is = c.grown-in-None.ensures ∙ ap (λ f. grown f c.in_ok-before-in-None.before c.args.spd) none
    ∙ ap (λ b. grown (flow_in c.args.self.now.rings c.args.stretch c.args.self.now.minute) b c.args.spd) before in
    let small : IsSmall c.grown-in-None.result =
    subst IsSmall (sym is)
    (grown_small c.args.self.now one.0 one.1 c.args.stretch c.args.vid c.args.spd c.requires.slow one.2) in
    let same : c.reserve.new.self.entries ≡ rings = search rules in
    small_after rings c.self.invariant c.args.stretch c.put-in-None.new.self
    (c.put-in-None.ensures.small small
    (λ m. subst IsSmall (sym (c.new-ring.ensures m)) (record { few = omega arith; slow = omega arith }))) _
    (λ j. c.in_ok-insert-in-None.ensures.updates.0 j
    ∙ ap (λ es. cond (same_stretch c.args.stretch j) (Some c.put-in-None.new.self) (lookup (same_stretch j) es))
    same)

pub returns-in_err-before-in-Some-clause-past : goal.returns-in_err-before-in-Some-clause-past
returns-in_err-before-in-Some-clause-past c = λ k m early late.
    ap (λ es. flow_in es k m)
    ((c.get_mut.follows.holds c.in-Some.ring.now).0
    ∙ set_value_same (same_stretch c.args.stretch) c.self.inside.rings.entries c.in-Some.ring.now
    (sym c.in-Some.ensures.value))
    ∙ ap (λ (s : KeptSpeeds). flow_in s.rings k m) c.self.view_is

pub returns-in_ok-before-in-Some-clause-past : goal.returns-in_ok-before-in-Some-clause-past
returns-in_ok-before-in-Some-clause-past c = λ k m early late.
    let was : c.self.inside.minute ≡ c.args.self.now.minute = ap (λ (s : KeptSpeeds). s.minute) c.self.view_is in
    past_put c.self.inside.rings.entries _ c.args.stretch c.put.new.self m
    (λ j. ((c.get_mut.follows.holds c.put.new.self).3 (search rules)).0 j)
    (c.put.ensures.window m (omega (arith, was, late)) (omega (arith, was, early))
    ∙ ap (λ o. flow_of o m) c.in-Some.ensures.value) k
    ∙ ap (λ (s : KeptSpeeds). flow_in s.rings k m) c.self.view_is

pub returns-in_ok-insert-in-None-clause-past : goal.returns-in_ok-insert-in-None-clause-past
returns-in_ok-insert-in-None-clause-past c = λ k m early late.
    let was : c.self.inside.minute ≡ c.args.self.now.minute = ap (λ (s : KeptSpeeds). s.minute) c.self.view_is in
    let same : c.reserve.new.self.entries ≡ c.self.inside.rings.entries = search rules in
    past_put c.self.inside.rings.entries c.insert.new.self.entries c.args.stretch c.put-in-None.new.self m
    (λ j. c.in_ok-insert-in-None.ensures.updates.0 j
    ∙ ap (λ es. cond (same_stretch c.args.stretch j) (Some c.put-in-None.new.self) (lookup (same_stretch j) es))
    same)
    (c.put-in-None.ensures.window m (omega (arith, was, late)) (omega (arith, was, early)) ∙ c.new-ring.ensures m
    ∙ ap (λ o. flow_of o m) c.in-None.ensures.value) k
    ∙ ap (λ (s : KeptSpeeds). flow_in s.rings k m) c.self.view_is
