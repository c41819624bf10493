use Rattle.std.proofs.Common.{take, sym, ap, ◌∙◌, arith, subst, slice_index_or}
use Rattle.std.proofs.lemmas.List.{take_all, take_more}
use Rattle.day_floor.specs.Floors.{StandsFor}
use Rattle.day_floor.specs.Sound.{CanFeed}
use Rattle.day_floor.specs.Steps.{after_feed}
use Rattle.day_import.specs.RoundRuns.{after_feeds}
use Rattle.day_import.proofs.FeedLaws.{can_next, fed_push, no_tuple}
use Rattle.day_import.proofs.work.feed_these.Goals as goal

pub feed-requires : goal.feed-requires
feed-requires g c =
    let inv = c.loop-tuple.invariant in
    let (e, s, st, can) = c.requires in
    let w = c.args.run.now.floor.inboxes.width in
    let i = c.loop-tuple.tuple-index in (
      e,
      after_feeds w s (take i c.args.these.now),
      inv.fed e s st can,
      subst
          (λ l. CanFeed l (after_feeds w s (take i c.args.these.now)) (slice_index_or c.args.these.now i no_tuple))
          (sym inv.limits)
          (can_next w c.args.run.now.floor.limits s c.args.these.now i no_tuple can c.loop-tuple-test.true),
    )

pub loop-tuple-preserved : goal.loop-tuple-preserved
loop-tuple-preserved g c =
    let inv = c.loop-tuple.invariant in
    let w = c.args.run.now.floor.inboxes.width in
    let i = c.loop-tuple.tuple-index in
    let these = c.args.these.now in
    record {
      width = c.feed.ensures.width ∙ inv.width;
      limits = c.feed.ensures.limits ∙ inv.limits;
      tickets = inv.tickets;
      fed = λ e s st can.
          subst (StandsFor e c.feed.new.self)
          (sym (ap (after_feeds w s) (take_more these i no_tuple c.loop-tuple-test.true)
          ∙ fed_push w s (take i these) (slice_index_or these i no_tuple)))
          (subst (λ n. StandsFor e c.feed.new.self
          (after_feed n (after_feeds w s (take i these)) (slice_index_or these i no_tuple))) inv.width
          (c.in_ok-feed.ensures.fed e (after_feeds w s (take i these)) (inv.fed e s st can)
          (subst (λ l. CanFeed l (after_feeds w s (take i these)) (slice_index_or these i no_tuple)) (sym inv.limits)
          (can_next w c.args.run.now.floor.limits s these i no_tuple can c.loop-tuple-test.true))));
    }

pub returns-clause-fed : goal.returns-clause-fed
returns-clause-fed g c e s st can =
    subst (λ xs. StandsFor e c.loop-tuple.run.floor (after_feeds c.args.run.now.floor.inboxes.width s xs))
    (take_all c.loop-tuple.tuple-index c.args.these.now (omega (arith, c.loop-tuple-test.false)))
    (c.loop-tuple.invariant.fed e s st can)
