-- what is told of a vehicle, after one more report
use Rattle.std.proofs.Common.{◌≡◌, ℕ, ◌==◌, ◌&&◌, ◌||◌, not, nat_le, min, Bool, List, [], ◌∷◌, sym, ap}
use Rattle.std.proofs.Common.{◌∙◌, arith, Option, Some, None, if◌then◌else◌}
use Rattle.std.proofs.lemmas.Bool.Decides.{nat_tests}
use Rattle.road_time.specs.declared.road.Report.{Report}
use Rattle.road_time.specs.declared.road.Place.{Place}
use Rattle.road_time.specs.declared.road.LastSeen.{LastSeen}
use Rattle.road_time.specs.Tuples.{place_of, stretch_around, same_stretch, same_place}
use Rattle.road_time.proofs.RunLaws.{min_four, last_seen_is}
use Rattle.road_time.proofs.EachLaws.{no_some}
use Rattle.day_floor.specs.declared.tracked.Tracked.{Tracked}
use Rattle.day_floor.specs.declared.tracked.Charge.{Charge}
use Rattle.day_floor.specs.declared.tracked.Charge.TheVariants.{No, Last}
use Rattle.road_time.specs.Stops.{run_at, last_seen}
use Rattle.day_floor.specs.Told.{IsTracked}

-- a count up to four tells whether there are four or more
le_min : (n : ℕ) → nat_le 4 (min 4 n) ≡ nat_le 4 n
le_min n = grind (arith, nat_tests)

-- whether a report begins a stay, by its place and the one before
abbrev pub begins_from : Place → Place → Bool
begins_from last here =
    not (same_stretch (stretch_around last) (stretch_around here)) || (last.lane == 4 && not (here.lane == 4))

-- the place that is left, by the run there
abbrev pub left_after : ℕ → Place → Place → Option Place
left_after run last here = if nat_le 4 run && not (same_place last here) then Some last else None

-- the charge, by the place before
abbrev pub charge_after : Bool → Place → Charge
charge_after begins last = if begins && not (last.lane == 4) then Last last.xway else No

-- what is told of a vehicle that was seen
pub told_is : (own : List Report) (r : Report) (here : Place) (last now : LastSeen) (t : Tracked) → last_seen own ≡
    Some last → place_of r ≡ here → last_seen (r ∷ own) ≡ Some now →
    t.begins ≡ begins_from last.place here → t.stopped ≡ (now.run == 4) → t.left ≡ left_after last.run last.place here →
    t.charge ≡ charge_after t.begins last.place → IsTracked t own r
told_is [] r here last now t k e g b s l c = absurd (no_some last k)
told_is (prev ∷ older) r here last now t k e g b s l c =
    let was = last_seen_is older prev last k in
    let is = last_seen_is (prev ∷ older) r now g in
    let begun : t.begins ≡ begins_from (place_of prev) (place_of r) = b ∙ ap (λ p. begins_from p here) was.0
    ∙ ap (begins_from (place_of prev)) (sym e) in
    record {
      begins = begun;
      stopped = s ∙ ap (λ n. n == 4) is.1 ∙ min_four (run_at (r ∷ prev ∷ older) (place_of r));
      left = l ∙ ap (λ p. left_after last.run p here) was.0 ∙ ap (left_after last.run (place_of prev)) (sym e)
          ∙ ap (λ n. left_after n (place_of prev) (place_of r)) was.1
          ∙ ap (λ x. if x && not (same_place (place_of prev) (place_of r)) then Some (place_of prev) else None)
          (le_min (run_at (prev ∷ older) (place_of prev)));
      charge = c ∙ ap (charge_after t.begins) was.0 ∙ ap (λ x. charge_after x (place_of prev)) begun;
    }
