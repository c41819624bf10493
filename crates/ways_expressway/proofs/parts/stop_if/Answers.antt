use Rattle.std.proofs.Common.{◌++◌, ◌∷◌, [], Bool, true, sym, subst}
use Rattle.road_time.specs.Tuples.{place_of}
use Rattle.ways_expressway.specs.AccidentsStand.{StandsFor as StopsStandFor}
use Rattle.ways_expressway.specs.declared.lane_event.LaneEvent.TheVariants.{Seen}
use Rattle.ways_expressway.specs.Events.{entries}
use Rattle.ways_expressway.proofs.parts.stop_if.Goals as goal

pub returns-in_ok-stop-clause-stopped : goal.returns-in_ok-stop-clause-stopped
returns-in_ok-stop-clause-stopped c = λ before position begins st.
    let r = c.args.report.now in
    subst (λ (b : Bool). StopsStandFor c.stop.new.self (before ++ entries (Seen position r begins b ∷ [])))
    (sym c.if-stopped.true)
    (subst (λ s. StopsStandFor c.stop.new.self
    (before ++ record { second = s; vid = r.vid; place = place_of r; stops = true } ∷ [])) c.requires.second
    (subst (λ p. StopsStandFor c.stop.new.self
    (before ++ record { second = c.args.stops.now.second; vid = r.vid; place = p; stops = true } ∷ []))
    c.place.ensures (c.in_ok-stop.ensures.stopped before st)))
