use Rattle.std.proofs.Common.{take, length, sym, ap, ◌∙◌, arith, subst, slice_index_or}
use Rattle.std.proofs.lemmas.List.{take_all, take_more}
use Rattle.day_floor.specs.Floors.{width_of, limits_of, StandsFor}
use Rattle.day_floor.specs.Shares.{start}
use Rattle.day_floor.specs.Sound.{CanFeed}
use Rattle.day_floor.specs.Steps.{after_feed}
use Rattle.example_day.specs.Turns.{after_fed}
use Rattle.example_day.proofs.FeedLaws.{can_next, fed_push, no_tuple, start_room}
use Rattle.example_day.proofs.feeding.feed_all.Goals as goal

pub feed-requires : goal.feed-requires
feed-requires c =
    let inv = c.loop-tuple.invariant in
    let w = width_of c.args.floor.now in
    let i = c.loop-tuple.tuple-index in
    let tuples = c.args.tuples.now in
    let t = after_fed w start (take i tuples) in (
      c.requires.stands.0,
      t,
      inv.fed c.requires.stands.0 c.requires.stands.1,
      subst (λ l. CanFeed l t (slice_index_or tuples i no_tuple)) (sym inv.limits)
          (can_next w (limits_of c.args.floor.now) start tuples i no_tuple c.requires.fit
          (start_room (length tuples) (limits_of c.args.floor.now).backlog c.requires.room) c.loop-tuple-test.true),
    )

pub loop-tuple-preserved : goal.loop-tuple-preserved
loop-tuple-preserved c =
    let inv = c.loop-tuple.invariant in
    let w = width_of c.args.floor.now in
    let i = c.loop-tuple.tuple-index in
    let tuples = c.args.tuples.now in
    let t = after_fed w start (take i tuples) in
    let x = slice_index_or tuples i no_tuple in
    record {
      width = c.feed.ensures.width ∙ inv.width;
      limits = c.feed.ensures.limits ∙ inv.limits;
      fed = λ g st.
          subst (StandsFor g c.feed.new.self)
          (sym (ap (after_fed w start) (take_more tuples i no_tuple c.loop-tuple-test.true)
          ∙ fed_push w start (take i tuples) x))
          (subst (λ n. StandsFor g c.feed.new.self (after_feed n t x)) inv.width
          (c.in_ok-feed.ensures.fed g t (inv.fed g st)
          (subst (λ l. CanFeed l t x) (sym inv.limits)
          (can_next w (limits_of c.args.floor.now) start tuples i no_tuple c.requires.fit
          (start_room (length tuples) (limits_of c.args.floor.now).backlog c.requires.room)
          c.loop-tuple-test.true))));
    }

pub returns-clause-fed : goal.returns-clause-fed
returns-clause-fed c g st =
    subst (λ xs. StandsFor g c.loop-tuple.floor (after_fed (width_of c.args.floor.now) start xs))
    (take_all c.loop-tuple.tuple-index c.args.tuples.now (omega (arith, c.loop-tuple-test.false)))
    (c.loop-tuple.invariant.fed g st)
