use Rattle.std.proofs.Common.{◌≡◌, ℕ, List, sym, ap, ◌∙◌, subst}
use Rattle.road_time.specs.declared.road.Tuple.{Tuple}
use Rattle.road_time.specs.Tuples.{reports}
use Rattle.road_time.proofs.AllowedLaws.{reports_push}
use Rattle.day_floor.specs.Stands.{StandsFor}
use Rattle.ways_expressway.specs.declared.lane_event.LaneEvent.{LaneEvent}
use Rattle.ways_expressway.specs.Events.{told_to}
use Rattle.day_floor.specs.declared.inboxes.Inboxes.{Inboxes}
use Rattle.day_floor.specs.Shares.{Share}
use Rattle.day_floor.specs.Desks.{IsDeskAt, with_events, tracked_events, StandFor}
use Rattle.ways_expressway.proofs.RunSteps.{on_refusal}
use Rattle.day_floor.proofs.Inbox.{left_direction, events_are, due_is}
use Rattle.day_floor.proofs.inboxes.Inboxes.feed_report.Goals as goal

pub make_rooms-requires-clause-direction : goal.make_rooms-requires-clause-direction
make_rooms-requires-clause-direction c =
    left_direction c.requires.day c.args.report.now c.requires.limits c.sight-sighting.result.tracked.left c.requires.fit
    (c.sight-sighting.ensures.told (reports c.requires.day) c.requires.stand.tracker).left

pub put_events-requires-clause-left_direction : goal.put_events-requires-clause-left_direction
put_events-requires-clause-left_direction c =
    left_direction c.requires.day c.args.report.now c.requires.limits c.sight-sighting.result.tracked.left c.requires.fit
    (c.sight-sighting.ensures.told (reports c.requires.day) c.requires.stand.tracker).left

pub returns-in_err-make_rooms-clause-refused : goal.returns-in_err-make_rooms-clause-refused
returns-in_err-make_rooms-clause-refused c =
    let i = c.args.self.now in
    let j : Inboxes = record i { desks = c.make_rooms.new.desks } in
    on_refusal {P = (day : List Tuple) (share : ℕ → Share) → StandFor i day share → StandFor j day share}
    c.from_residual.result
    (λ day share st. record {
      width = c.make_rooms.ensures.len ∙ st.width;
      some = st.some;
      few = st.few;
      tracker =
          st.tracker;
      desks = λ w. c.make_rooms.ensures.same w (share w) (st.desks w);
    })

pub returns-in_err-keep-clause-refused : goal.returns-in_err-keep-clause-refused
returns-in_err-keep-clause-refused c =
    let i = c.args.self.now in
    let j : Inboxes = record { width = i.width; tracker = c.keep.new.self; desks = c.make_rooms.new.desks } in
    on_refusal {P = (day : List Tuple) (share : ℕ → Share) → StandFor i day share → StandFor j day share}
    c.from_residual-in_err-keep.result
    (λ day share st. record {
      width = c.make_rooms.ensures.len ∙ st.width;
      some = st.some;
      few = st.few;
      tracker = subst (λ k. StandsFor k (reports day)) (sym c.in_err-keep.ensures.refused) st.tracker;
      desks = λ w. c.make_rooms.ensures.same w (share w) (st.desks w);
    })

pub returns-clause-fed : goal.returns-clause-fed
returns-clause-fed c = λ day share st at.
    let r = c.args.report.now in
    let width = c.args.self.now.width in
    let tracked = c.sight-sighting.result.tracked in
    let events : tracked_events c.args.position r tracked ≡ _ =
    ap (λ n. tracked_events n r tracked) (sym at)
    ∙ events_are day r tracked (c.sight-sighting.ensures.told (reports day) st.tracker) in
    record {
      width = c.put_events.ensures.len ∙ c.make_rooms.ensures.len ∙ st.width;
      some = st.some;
      few = st.few;
      tracker =
          subst (StandsFor c.keep.new.self) (sym (reports_push day r))
          (c.in_ok-keep.ensures.seen (reports day) st.tracker);
      desks = λ w. subst
          (λ (es : List LaneEvent). IsDeskAt c.put_events.new.desks.items w
          (with_events (told_to w width es) (share w))) events
          (c.put_events.ensures.put w (share w) (c.make_rooms.ensures.same w (share w) (st.desks w)));
    }

pub returns-clause-due : goal.returns-clause-due
returns-clause-due c = λ day share st. c.of_report.ensures
    ∙ due_is day c.args.report.now c.sight-sighting.result.tracked
    (c.sight-sighting.ensures.told (reports day) st.tracker)
