use Rattle.std.proofs.Common.{ap, ◌∙◌, sym, subst, take, get_or, None, arith}
use Rattle.std.proofs.lemmas.List.{take_all, take_more, length-take-le}
use Rattle.ways_expressway.specs.Events.{events_for}
use Rattle.ways_audit.specs.Routing.{HasEvents}
use Rattle.ways_audit.proofs.RoutingLaws.{route_push, shown_here, no_tuple}
use Rattle.ways_audit.proofs.routing.put_all.Goals as goal

pub loop-at-preserved : goal.loop-at-preserved
loop-at-preserved c =
    let ts = c.args.tuples.now in
    let i = c.loop-at.at in
    let x = get_or ts i no_tuple in
    record {
      len = c.in_ok-put_events_at.ensures.len ∙ c.loop-at.invariant.len;
      events = λ w. subst (HasEvents c.put_events_at.new.lists w)
          (sym (ap (λ day. events_for day w c.args.width) (take_more ts i no_tuple c.loop-at-test.true)
          ∙ route_push w c.args.width (take i ts) x))
          (c.in_ok-put_events_at.ensures.put (take i ts) (length-take-le i ts (omega (arith, c.loop-at-test.true)))
          (shown_here ts c.args.tracked.now i no_tuple None c.requires.tracked c.loop-at-test.true) w
          (events_for (take i ts) w c.args.width) (c.loop-at.invariant.events w));
    }

pub returns-clause-events : goal.returns-clause-events
returns-clause-events c = λ w from.
    subst (λ day. HasEvents c.loop-at.lists w (events_for day w c.args.width))
    (take_all c.loop-at.at c.args.tuples.now c.loop-at-test.false) (c.loop-at.invariant.events w)
