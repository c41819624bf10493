-- a tracker over the reports of a day's tuples
use Rattle.std.proofs.Common.{◌≡◌, ℕ, ◌==◌, ◌&&◌, not, Bool, true, false, ◌++◌, ◌∷◌, [], List, map, Some, None, refl}
use Rattle.std.proofs.Common.{sym, ap, ◌∙◌, subst, if◌then◌else◌}
use Rattle.std.proofs.lemmas.Bool.{cond-true, and_parts, false≢true}
use Rattle.std.proofs.lemmas.List.Elements.{filter_map-append}
use Rattle.road_time.specs.declared.road.Tuple.{Tuple}
use Rattle.road_time.specs.declared.road.Tuple.TheVariants.{Report as ReportTuple}
use Rattle.road_time.specs.declared.road.Report.{Report}
use Rattle.road_time.specs.declared.road.Place.{Place}
use Rattle.road_time.specs.Tuples.{reports, report_of, place_of, same_place}
use Rattle.road_time.specs.Sights.{Sight, sights_of, previous}
use Rattle.road_time.specs.Stays.{begins}
use Rattle.road_time.specs.Stops.{trail, stands, left_by}
use Rattle.road_time.proofs.EachLaws.{some_is, no_some}
use Rattle.road_time.proofs.SameLaws.{number_same}
use Rattle.road_time.proofs.TrailLaws.{trail_is, trail_push, left_by_is, turned}
use Rattle.day_floor.specs.declared.tracked.Tracked.{Tracked}
use Rattle.day_floor.specs.Told.{newest, charge_by, IsTracked}
use Rattle.day_floor.specs.CrossingsLaws.{TellsOfDay}

-- the newest of some sights is their newest report
newest_sight : (own : List Sight) → newest (map (λ s. s.1) own) ≡ previous own
newest_sight [] = refl
newest_sight (s ∷ older) = refl

-- a vehicle's newest report is the one by which its stays go
pub newest_is : (day : List Tuple) (vid : ℕ) → newest (trail (reports day) vid) ≡ previous (sights_of day vid)
newest_is day vid = ap newest (sym (trail_is day vid)) ∙ newest_sight (sights_of day vid)

-- a vehicle's reports after one more
pub trail_more : (day : List Tuple) (r : Report) →
    trail (reports (day ++ ReportTuple r ∷ [])) r.vid ≡ r ∷ trail (reports day) r.vid
trail_more day r =
    ap (λ rs. trail rs r.vid) (filter_map-append report_of day (ReportTuple r ∷ [])) ∙ trail_push (reports day) r r.vid
    ∙ cond-true (r.vid == r.vid) (r ∷ trail (reports day) r.vid) (trail (reports day) r.vid) (number_same r.vid)

is_false : (b : Bool) → not b ≡ true → b ≡ false
is_false true h = absurd (false≢true h)
is_false false h = refl

-- a place that is left only under a test
left_if : (b : Bool) (p q : Place) → (if b then Some p else None) ≡ Some q → (b ≡ true) × (p ≡ q)
left_if true p q h = (refl, some_is p q h)
left_if false p q h = absurd (no_some q h)

-- the place that is left is one where the vehicle stood, and where the report is not
left_only : (own : List Report) (r : Report) (p : Place) → left_by own r ≡ Some p → (stands own p ≡ true)
    × (same_place (place_of r) p ≡ false)
left_only [] r p h = absurd (no_some p h)
left_only (prev ∷ older) r p h =
    let is = left_if (stands (prev ∷ older) (place_of prev) && not (same_place (place_of prev) (place_of r)))
    (place_of prev) p h in
    let parts =
    and_parts (stands (prev ∷ older) (place_of prev)) (not (same_place (place_of prev) (place_of r))) is.0 in (
      subst (λ q. stands (prev ∷ older) q ≡ true) is.1 parts.0,
      turned p (place_of r)
          (subst (λ q. same_place q (place_of r) ≡ false) is.1
          (is_false (same_place (place_of prev) (place_of r)) parts.1)),
    )

-- what is told after a vehicle's reports is told after the day's tuples
pub told_is_of_the_day : (day : List Tuple) (r : Report) (t : Tracked) → IsTracked t (trail (reports day) r.vid) r →
    TellsOfDay t day r
told_is_of_the_day day r t h = record {
  begins = h.begins ∙ ap (λ prev. begins prev r) (newest_is day r.vid);
  charge = h.charge ∙ ap (λ prev. charge_by prev r) (newest_is day r.vid);
  stopped = h.stopped ∙ ap (λ own. stands own (place_of r)) (sym (trail_more day r));
  left = λ place. (
    λ is. left_only (trail (reports day) r.vid) r place (sym h.left ∙ is),
    λ stood. h.left
        ∙ left_by_is (trail (reports day) r.vid) r place stood.0 stood.1,
  );
}
