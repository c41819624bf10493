-- one note more, and what is noted stays small
use Rattle.std.proofs.Common.{◌≡◌, ℕ, ◌+◌, ◌-◌, ◌*◌, ◌≤◌, ◌<◌, ◌==◌, ◌&&◌, not, ⊎_elim, Bool, true, false, cond, []}
use Rattle.std.proofs.Common.{List, ◌∷◌, ◌++◌, length, map, refl, sym, ap, subst, ◌∙◌, arith, Some, nat_lt}
use Rattle.std.specs.List.{filter, sum_by}
use Rattle.std.specs.Map.{lookup}
use Rattle.std.proofs.lemmas.List.{length_push, length-map}
use Rattle.std.proofs.lemmas.List.Elements.{recursion_from_All, All-push}
use Rattle.std.proofs.lemmas.Bool.{cases_Bool, and_left, and_parts, eqb-true, eq-eqb}
use Rattle.std.proofs.lemmas.Bool.Decides.{nat_tests}
use Rattle.road_time.specs.declared.road.Stretch.{Stretch}
use Rattle.road_time.specs.Tuples.{same_stretch}
use Rattle.road_time.specs.Notes.{Note, cars, speeds12, speed12, is_noted, is_noted_at, notes_at, notes_of_vehicle}
use Rattle.road_time.specs.Notes.{vehicles_of}
use Rattle.road_time.specs.Lav.{flow_at}
use Rattle.road_time.proofs.NoteLaws.{has-distinct, filter-le, distinct-le}
use Rattle.road_time.proofs.PushLaws.{cars_yes, cars_no, speeds12_yes, speeds12_no}
use Rattle.road_time.proofs.EachLaws.{kept}
use Rattle.road_time.proofs.FitLaws.{cars-le_vehicles}
use Rattle.road_time.proofs.LavLaws.{speeds_slow}
use Rattle.ways_expressway.specs.KeptSpeeds.{KeptSpeeds}
use Rattle.ways_expressway.specs.declared.this_minute.Car.{Car}
use Rattle.ways_expressway.specs.declared.window.Ring.{Ring}
use Rattle.ways_expressway.specs.Parts.{shown_flow, no_flow, more, mean12, grown, sum_for, ring_flow, flow_of, same_car}
use Rattle.ways_expressway.specs.Parts.{sum_in, flow_in, IsSmall}
use Rattle.ways_expressway.specs.SpeedsStand.{StandsFor, CanNote}
use Rattle.ways_expressway.proofs.NoteParts.{none_later, narrow, of_both, slow_sum, flow_made, nothing, more_sum}
use Rattle.ways_expressway.proofs.NoteParts.{noted_count, own_push, pick}
use Rattle.road_time.proofs.SameLaws.{stretch_is}

module _ (s : KeptSpeeds) (notes : List Note) (st : StandsFor s notes) (k : Stretch) (v spd : ℕ) where
  -- the note
  abbrev pub n : Note
  n = record { minute = s.minute; stretch = k; vid = v; spd = spd }

  -- its vehicle in its stretch
  abbrev pub car : Car
  car = record { stretch = k; vid = v }

  -- the notes of its vehicle in its stretch in this minute
  abbrev own : List Note
  own = notes_of_vehicle (notes_at notes s.minute k) v

  -- the note is of its own stretch and minute
  here_yes : is_noted_at s.minute k n ≡ true
  here_yes = rw (eq-eqb s.minute s.minute refl) (self_same k)
    where
      self_same : (k : Stretch) → same_stretch k k ≡ true
      self_same k = rw (eq-eqb k.xway k.xway refl, eq-eqb k.dir k.dir refl, eq-eqb k.seg k.seg refl) refl

  -- the current minute is in the window
  now : s.minute < s.minute + 6
  now = omega arith

  -- what is kept stays small

  -- a vehicle has at most three notes in this minute
  pub count_few : CanNote notes n → (sum_in s.seen car).count ≤ 3
  count_few can =
      let part : length own ≤ length (filter (λ o. o.minute == s.minute && o.vid == v) notes) =
      narrow (λ o. o.vid == v) (is_noted_at s.minute k) (λ o. o.minute == s.minute && o.vid == v)
      (λ x e f. of_both (x.minute == s.minute) (same_stretch x.stretch k) (x.vid == v) e f) notes in
      let same : (sum_in s.seen car).count ≡ length own = ap (λ x. x.count) (st.sums k v) in
      let three : length (filter (λ o. o.minute == s.minute && o.vid == v) notes) ≤ 3 = can.three in
      omega (arith, part, same, three)

  -- with speeds of at most 300
  pub total_few : CanNote notes n → (sum_in s.seen car).total ≤ 300
  total_few can =
      let few = count_few can in
      let count : (sum_in s.seen car).count ≡ length own = ap (λ x. x.count) (st.sums k v) in
      let total : (sum_in s.seen car).total ≡ sum_by (λ x. x.spd) own = ap (λ x. x.total) (st.sums k v) in
      let slow =
      slow_sum own
      (kept (λ x. x.spd ≤ 100) (λ x. x.vid == v) (notes_at notes s.minute k)
      (kept (λ x. x.spd ≤ 100) (is_noted_at s.minute k) notes
      (recursion_from_All (λ x. x.spd ≤ 100) notes st.slow))) in
      omega (arith, few, count, total, slow)

  -- a minute of the window has at most 500,000 cars
  pub cars_few : (m : ℕ) → s.minute < m + 6 → (flow_in s.rings k m).cars ≤ 500000
  cars_few m h =
      let same : (flow_in s.rings k m).cars ≡ cars notes m k = ap (λ f. f.cars) (st.flows k m h) in
      let few = cars-le_vehicles notes m k in
      let all = st.few in
      omega (arith, same, few, all)

  -- none with a mean above 100
  pub speeds_by_cars : (m : ℕ) → s.minute < m + 6 → (flow_in s.rings k m).speeds12 ≤ 1200 * (flow_in s.rings k m).cars
  speeds_by_cars m h =
      let number : (flow_in s.rings k m).cars ≡ cars notes m k = ap (λ f. f.cars) (st.flows k m h) in
      let same : (flow_in s.rings k m).speeds12 ≡ speeds12 notes m k = ap (λ f. f.speeds12) (st.flows k m h) in
      let slow = speeds_slow notes m k (recursion_from_All (λ x. x.spd ≤ 100) notes st.slow) in
      omega (arith, same, number, slow)

  -- so their sum is small
  pub speeds_few : (flow_in s.rings k s.minute).speeds12 ≤ 600000000
  speeds_few = let a = cars_few s.minute now in let b = speeds_by_cars s.minute now in omega (arith, a, b)

  -- one mean for another

  -- one mean takes the place of another
  step : speeds12 (notes ++ n ∷ []) s.minute k + mean12 (sum_in s.seen car) ≡ (flow_in s.rings k s.minute).speeds12
      + mean12 (more (sum_in s.seen car) spd)
  step =
      let law = speeds12_yes notes n s.minute k here_yes in
      let was : mean12 (sum_in s.seen car) ≡ speed12 own = ap mean12 (st.sums k v) in
      let is : mean12 (more (sum_in s.seen car) spd) ≡ speed12 (own ++ n ∷ []) =
      ap (λ x. mean12 (more x spd)) (st.sums k v) ∙ ap mean12 (sym (more_sum own n)) in
      let old : (flow_in s.rings k s.minute).speeds12 ≡ speeds12 notes s.minute k =
      ap (λ f. f.speeds12) (st.flows k s.minute now) in
      rw (was, is, old) law

  -- the mean that goes is not more than what there is
  pub part_few : mean12 (sum_in s.seen car) ≤ (flow_in s.rings k s.minute).speeds12 + mean12
      (more (sum_in s.seen car) spd)
  part_few = let e = step in omega (arith, e)

  -- the flow with the note is that of the notes with it
  grown_is : shown_flow (grown (flow_in s.rings k s.minute) (sum_in s.seen car) spd)
      ≡ flow_at (notes ++ n ∷ []) k s.minute
  grown_is = flow_made number speeds
    where
      up : (b : Bool) (a c : ℕ) → a ≡ c → cond (not b) (a + 1) a ≡ c + cond b 0 1
      up true a c e = omega (arith, e)
      up false a c e = omega (arith, e)

      empty : ((sum_in s.seen car).count == 0) ≡ not (is_noted notes s.minute k v)
      empty = ap (λ x. x.count == 0) (st.sums k v) ∙ noted_count (notes_at notes s.minute k) v
          ∙ ap not (sym (has-distinct (map (λ x. x.vid) (notes_at notes s.minute k)) v))

      number : cond ((sum_in s.seen car).count == 0) ((flow_in s.rings k s.minute).cars + 1)
          (flow_in s.rings k s.minute).cars ≡ cars (notes ++ n ∷ []) s.minute k
      number =
          ap (λ b. cond b ((flow_in s.rings k s.minute).cars + 1) (flow_in s.rings k s.minute).cars) empty
          ∙ up (is_noted notes s.minute k v) (flow_in s.rings k s.minute).cars (cars notes s.minute k)
          (ap (λ f. f.cars) (st.flows k s.minute now))
          ∙ sym (cars_yes notes n s.minute k here_yes)

      speeds : (flow_in s.rings k s.minute).speeds12 + mean12 (more (sum_in s.seen car) spd) - mean12
          (sum_in s.seen car) ≡ speeds12 (notes ++ n ∷ []) s.minute k
      speeds = let e = step in omega (arith, e)

  -- the flow with one more note is that of a day
  pub grown_small : spd ≤ 100 → CanNote notes n → IsSmall (grown (flow_in s.rings k s.minute) (sum_in s.seen car) spd)
  grown_small slow can =
      let all = cars-le_vehicles (notes ++ n ∷ []) s.minute k in
      let few = can.few in
      let by = speeds_slow (notes ++ n ∷ []) s.minute k
      (recursion_from_All (λ x. x.spd ≤ 100) (notes ++ n ∷ [])
      (All-push (λ x. x.spd ≤ 100) notes n st.slow slow)) in
      let cars_are : (shown_flow (grown (flow_in s.rings k s.minute) (sum_in s.seen car) spd)).cars
      ≡ cars (notes ++ n ∷ []) s.minute k = ap (λ f. f.cars) grown_is in
      let speeds_are : (shown_flow (grown (flow_in s.rings k s.minute) (sum_in s.seen car) spd)).speeds12 ≡ speeds12
      (notes ++ n ∷ []) s.minute k = ap (λ f. f.speeds12) grown_is in
      record {
        few = omega (arith, all, few, cars_are);
        slow = omega (arith, by, cars_are, speeds_are);
      }

  -- elsewhere
  flow_no : (j : Stretch) (m : ℕ) → is_noted_at m j n ≡ false → flow_at (notes ++ n ∷ []) j m ≡ flow_at notes j m
  flow_no j m h = flow_made (cars_no notes n m j h) (speeds12_no notes n m j h)

  -- no flow is of a later minute
  none_yet : (j : Stretch) (m : ℕ) → s.minute < m → flow_at notes j m ≡ record { cars = 0; speeds12 = 0 }
  none_yet j m h =
      ap (λ zs. record {
        cars = length (vehicles_of zs);
        speeds12 =
            sum_by (λ w. speed12 (notes_of_vehicle zs w)) (vehicles_of zs);
      }) (none_later notes s.minute m j h st.none_after)

  module _ (ring ring' : Ring) (was : (m : ℕ) → ring_flow ring m ≡ flow_in s.rings k m)
      (here : ring_flow ring' s.minute ≡ grown (flow_in s.rings k s.minute) (sum_in s.seen car) spd)
      (window : (m : ℕ) → s.minute < m + 6 → m < s.minute → ring_flow ring' m ≡ ring_flow ring m)
      (later : (m : ℕ) → s.minute < m → ring_flow ring m ≡ no_flow → ring_flow ring' m ≡ no_flow) where
    at_here : (m : ℕ) → s.minute < m + 6 → shown_flow (ring_flow ring' m) ≡ flow_at (notes ++ n ∷ []) k m
    at_here m h =
        ⊎_elim
        (λ e. subst (λ (x : ℕ). shown_flow (ring_flow ring' x) ≡ flow_at (notes ++ n ∷ []) k x) (eqb-true s.minute m e)
        (ap shown_flow here ∙ grown_is))
        (λ e. other e)
        (cases_Bool (s.minute == m))
      where
        gone : (s.minute == m) ≡ false → flow_at (notes ++ n ∷ []) k m ≡ flow_at notes k m
        gone e = flow_no k m (and_left (s.minute == m) (same_stretch k k) e)

        other : (s.minute == m) ≡ false → shown_flow (ring_flow ring' m) ≡ flow_at (notes ++ n ∷ []) k m
        other e =
            ⊎_elim
            (λ b. ap shown_flow (window m h (less b) ∙ was m) ∙ st.flows k m h ∙ sym (gone e))
            (λ b. let up = over e b in
            ap shown_flow
            (later m up (nothing (ring_flow ring m) (ap shown_flow (was m) ∙ st.flows k m h ∙ none_yet k m up)))
            ∙ sym (none_yet k m up) ∙ sym (gone e))
            (cases_Bool (nat_lt m s.minute))
          where
            less : nat_lt m s.minute ≡ true → m < s.minute
            less b = grind (arith, nat_tests)

            over : (s.minute == m) ≡ false → nat_lt m s.minute ≡ false → s.minute < m
            over e b = grind (arith, nat_tests)

    flows_after : (j : Stretch) (m : ℕ) → s.minute < m + 6 →
        shown_flow (flow_of (cond (same_stretch k j) (Some ring') (lookup (same_stretch j) s.rings)) m) ≡ flow_at
        (notes ++ n ∷ []) j m
    flows_after j m h =
        ⊎_elim
        (λ e. ap (λ b. shown_flow (flow_of (cond b (Some ring') (lookup (same_stretch j) s.rings)) m)) e ∙ at_here m h
        ∙ ap (λ x. flow_at (notes ++ n ∷ []) x m) (stretch_is k j e))
        (λ e. ap (λ b. shown_flow (flow_of (cond b (Some ring') (lookup (same_stretch j) s.rings)) m)) e ∙ st.flows j m
        h
        ∙ sym (flow_no j m (no_here e)))
        (cases_Bool (same_stretch k j))
      where
        no_here : same_stretch k j ≡ false → is_noted_at m j n ≡ false
        no_here e = rw e (and_no (s.minute == m))
          where
            and_no : (b : Bool) → (b && false) ≡ false
            and_no true = refl
            and_no false = refl

    -- what stands for the notes, with one more
    pub noted : (t : KeptSpeeds) → t.minute ≡ s.minute → spd ≤ 100 → CanNote notes n →
        ((c : Car) → sum_in t.seen c ≡ cond (same_car car c) (more (sum_in s.seen car) spd) (sum_in s.seen c)) →
        ((j : Stretch) →
        lookup (same_stretch j) t.rings ≡ cond (same_stretch k j) (Some ring') (lookup (same_stretch j) s.rings)) →
        StandsFor t (notes ++ n ∷ [])
    noted t e slow can sums rings =
        record {
          first = rw e st.first;
          none_after = rw e (All-push (λ x. x.minute ≤ s.minute) notes n st.none_after (omega arith));
          slow = All-push (λ x. x.spd ≤ 100) notes n st.slow slow;
          few = can.few;
          sums = λ j w. rw e (sums (record { stretch = j; vid = w }) ∙ after j w);
          flows = λ j m h. ap (λ o. shown_flow (flow_of o m)) (rings j) ∙ flows_after j m (rw e at h);
        }
      where
        after : (j : Stretch) (w : ℕ) → cond (same_stretch k j && v == w) (more (sum_in s.seen car) spd)
            (sum_in s.seen (record { stretch = j; vid = w })) ≡ sum_for
            (notes_of_vehicle (notes_at (notes ++ n ∷ []) s.minute j) w)
        after j w =
            ⊎_elim
            (λ b. let both = and_parts (same_stretch k j) (v == w) b in
            let place : k ≡ j = stretch_is k j both.0 in
            let who : v ≡ w = eqb-true v w both.1 in
            ap (λ x. cond x (more (sum_in s.seen car) spd) (sum_in s.seen (record { stretch = j; vid = w }))) b
            ∙ ap (λ x. more x spd) (st.sums k v)
            ∙ ap (λ x. more x spd) (rw (place, who) refl)
            ∙ sym (ap sum_for (own_push notes n j w)
            ∙ pick (same_stretch k j && v == w) (notes_of_vehicle (notes_at notes s.minute j) w) n
            ∙ ap (λ x. cond x (more (sum_for (notes_of_vehicle (notes_at notes s.minute j) w)) spd)
            (sum_for (notes_of_vehicle (notes_at notes s.minute j) w))) b))
            (λ b. ap (λ x. cond x (more (sum_in s.seen car) spd) (sum_in s.seen (record { stretch = j; vid = w }))) b
            ∙ st.sums j w
            ∙ sym (ap sum_for (own_push notes n j w)
            ∙ pick (same_stretch k j && v == w) (notes_of_vehicle (notes_at notes s.minute j) w) n
            ∙ ap (λ x. cond x (more (sum_for (notes_of_vehicle (notes_at notes s.minute j) w)) spd)
            (sum_for (notes_of_vehicle (notes_at notes s.minute j) w))) b))
            (cases_Bool (same_stretch k j && v == w))

pub noted_as : (s held : KeptSpeeds) → s ≡ held → (notes : List Note) → StandsFor held notes →
    (k : Stretch) (v spd : ℕ) (ring ring' : Ring) → ((m : ℕ) → ring_flow ring m ≡ flow_in s.rings k m) →
    ring_flow ring' s.minute ≡ grown (flow_in s.rings k s.minute) (sum_in s.seen (record { stretch = k; vid = v })) spd
    → ((m : ℕ) → s.minute < m + 6 → m < s.minute → ring_flow ring' m ≡ ring_flow ring m) →
    ((m : ℕ) → s.minute < m → ring_flow ring m ≡ no_flow → ring_flow ring' m ≡ no_flow) →
    (t : KeptSpeeds) → t.minute ≡ s.minute → spd ≤ 100 →
    CanNote notes (record { minute = held.minute; stretch = k; vid = v; spd = spd }) → ((c : Car) →
    sum_in t.seen c ≡ cond (same_car (record { stretch = k; vid = v }) c)
    (more (sum_in s.seen (record { stretch = k; vid = v })) spd) (sum_in s.seen c)) → ((j : Stretch) →
    lookup (same_stretch j) t.rings ≡ cond (same_stretch k j) (Some ring') (lookup (same_stretch j) s.rings)) →
    StandsFor t (notes ++ record { minute = held.minute; stretch = k; vid = v; spd = spd } ∷ [])
noted_as s held e notes st k v spd ring ring' was here window later t same slow can sums rings =
    subst (λ (x : KeptSpeeds).
    StandsFor t (notes ++ record { minute = x.minute; stretch = k; vid = v; spd = spd } ∷ [])) e
    (noted s notes
    (subst (λ (x : KeptSpeeds). StandsFor x notes) (sym e) st) k v spd ring ring' was here window later t same
    slow (subst (λ (x : KeptSpeeds). CanNote notes (record { minute = x.minute; stretch = k; vid = v; spd = spd }))
    (sym e) can) sums rings)

-- three notes leave room for one more
pub short_can : (notes : List Note) (n : Note) → length notes ≤ 3 → CanNote notes n
short_can notes n h =
    let filtered = filter-le (λ o. o.minute == n.minute && o.vid == n.vid) notes in
    let vehicles = distinct-le (map (λ o. o.vid) (notes ++ n ∷ [])) in
    let mapped = length-map (notes ++ n ∷ []) (λ o. o.vid) in
    let pushed = length_push notes n in
    record {
      three = omega (arith, filtered, h);
      few = omega (arith, vehicles, mapped, pushed, h);
    }
