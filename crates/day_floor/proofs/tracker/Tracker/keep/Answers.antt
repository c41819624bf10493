use Rattle.std.proofs.Common.{◌≡◌, ℕ, Option, Some, IfSome, slice_get, sym, subst}
use Rattle.road_time.specs.declared.road.LastSeen.{LastSeen}
use Rattle.day_floor.specs.Stands.{StandsFor}
use Rattle.road_time.proofs.Places.{both_at, written_at}
use Rattle.day_floor.proofs.TrackerLaws.{seen_more}
use Rattle.day_floor.proofs.tracker.Tracker.keep.Goals as goal

pub returns-in-Some-clause-seen : goal.returns-in-Some-clause-seen
returns-in-Some-clause-seen c = λ reports st.
    let r = c.args.report.now in
    let kept = c.args.self.now in
    let there = subst
    (λ (o : Option ℕ). IfSome o (λ at. (last : LastSeen) × (slice_get kept at ≡ Some (r.vid, last))))
    c.in-Some.is c.requires.at in
    let was = subst (λ k. slice_get k c.in-Some.at ≡ Some (r.vid, there.0)) (sym c.self.view_is) there.1 in
    let here = both_at r.vid _ _ _ _ was c.pair_mut-seen.ensures.value in
    seen_more c.self.inside.seen.entries _ reports r c.args.sighting.now.now
    (subst (λ k. StandsFor k reports) (sym c.self.view_is) st) (c.requires.now reports st)
    (written_at c.self.inside.seen c.in-Some.at r.vid _ c.pair_mut-seen.ensures.unique here c.args.sighting.now.now)
