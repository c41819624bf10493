use Rattle.std.proofs.Common.{◌≡◌, ◌+◌, ◌++◌, ◌∷◌, [], cond, ap, ◌∙◌, sym, subst, length, take, get_or, arith}
use Rattle.std.proofs.lemmas.List.{take_all, take_more, length-take-le}
use Rattle.ways_audit.specs.Own.{is_own, HasPlaces, places_from}
use Rattle.ways_audit.proofs.PlaceLaws.{places_push}
use Rattle.ways_audit.proofs.RoutingLaws.{no_tuple}
use Rattle.ways_audit.proofs.splitting.put_all.Goals as goal

pub loop-at-preserved : goal.loop-at-preserved
loop-at-preserved c =
    let ts = c.args.tuples.now in
    let i = c.loop-at.at in
    let n = length c.args.lists.now in
    let x = get_or ts i no_tuple in
    let long = length-take-le i ts (omega (arith, c.loop-at-test.true)) in
    let at_is : i ≡ 0 + length (take i ts) = omega (arith, long) in
    record {
      len = c.in_ok-put_own.ensures.len ∙ c.loop-at.invariant.len;
      places = λ s. subst (HasPlaces c.put_own.new.lists s)
          (ap (λ m. places_from s n 0 (take i ts) ++ cond (is_own s m x) (i ∷ []) []) c.loop-at.invariant.len
          ∙ ap (λ m. places_from s n 0 (take i ts) ++ cond (is_own s n x) (m ∷ []) [])
          at_is
          ∙ sym (places_push s n 0 (take i ts) x)
          ∙ sym (ap (places_from s n 0) (take_more ts i no_tuple c.loop-at-test.true)))
          (c.in_ok-put_own.ensures.put s (places_from s n 0 (take i ts)) (c.loop-at.invariant.places s));
    }

pub returns-clause-places : goal.returns-clause-places
returns-clause-places c = λ s.
    subst (λ ts. HasPlaces c.loop-at.lists s (places_from s (length c.args.lists.now) 0 ts))
    (take_all c.loop-at.at c.args.tuples.now c.loop-at-test.false) (c.loop-at.invariant.places s)
