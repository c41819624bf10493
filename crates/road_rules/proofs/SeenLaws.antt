-- what one more tuple adds to the vehicles of a stretch in a minute
use Rattle.std.proofs.Common.{◌≡◌, ℕ, suc, ◌+◌, ◌*◌, ◌/◌, ◌<◌, ◌≤◌, ◌==◌, ◌&&◌, Bool, true, false, cond, List, [], ◌∷◌}
use Rattle.std.proofs.Common.{◌++◌, length, take, get_or, map, refl, sym, ap, ◌∙◌, Option, Some, None, arith}
use Rattle.std.specs.List.{filter_map, cons_option, sum, sum_by}
use Rattle.std.proofs.lemmas.List.Elements.{filter_map-append}
use Rattle.std.proofs.lemmas.List.{append-nil, take_more, length-map}
use Rattle.std.proofs.lemmas.List.Sums.{sum-map}
use Rattle.road_time.specs.declared.road.Tuple.{Tuple}
use Rattle.road_time.specs.declared.road.Tuple.TheVariants.{Report as ReportTuple, Balance, Spent, Travel}
use Rattle.road_time.specs.declared.road.Stretch.{Stretch}
use Rattle.road_time.specs.Notes.{Note, note_of, is_noted_at, notes_at, notes_of_vehicle, vehicles_of, distinct}
use Rattle.road_time.specs.Notes.{speed12}
use Rattle.road_time.specs.Tuples.{reports}
use Rattle.road_time.specs.Tolls.{notes_of}
use Rattle.road_time.proofs.NoteLaws.{distinct_push}
use Rattle.road_rules.specs.Seen.{noted_vehicle, noted_speed, speed_if, with_vehicle}

vids_step : (b : Bool) (n : Note) (notes : List Note) (vs : List ℕ) → map (λ m. m.vid) notes ≡ vs →
    map (λ m. m.vid) (cond b (n ∷ notes) notes) ≡ cons_option (cond b (Some n.vid) None) vs
vids_step true n notes vs e = ap (λ ws. n.vid ∷ ws) e
vids_step false n notes vs e = e

vids_are : (m : ℕ) (k : Stretch) (day : List Tuple) →
    map (λ n. n.vid) (notes_at (notes_of (reports day)) m k) ≡ filter_map (noted_vehicle m k) day
vids_are m k [] = refl
vids_are m k (ReportTuple r ∷ xs) =
    vids_step (is_noted_at m k (note_of r)) (note_of r) (notes_at (notes_of (reports xs)) m k) _ (vids_are m k xs)
vids_are m k (Balance time vid qid ∷ xs) = vids_are m k xs
vids_are m k (Spent time vid xway qid of_day ∷ xs) = vids_are m k xs
vids_are m k (Travel time ∷ xs) = vids_are m k xs

abbrev pub seen_after : Option ℕ → List ℕ → List ℕ
seen_after None vs = vs
seen_after (Some v) vs = with_vehicle vs v

seen_push : (o : Option ℕ) (ws : List ℕ) → distinct (ws ++ cons_option o []) ≡ seen_after o (distinct ws)
seen_push None ws = ap distinct (append-nil ws)
seen_push (Some v) ws = distinct_push ws v

-- the vehicles after one more tuple
pub vehicles_more : (m : ℕ) (k : Stretch) (day : List Tuple) (i : ℕ) (d : Tuple) {o : Option ℕ} → i < length day →
    o ≡ noted_vehicle m k (get_or day i d) →
    vehicles_of (notes_at (notes_of (reports (take (i + 1) day))) m k) ≡ seen_after o
    (vehicles_of (notes_at (notes_of (reports (take i day))) m k))
vehicles_more m k day i d {o} h e =
    rw (
      vids_are m k (take (i + 1) day),
      vids_are m k (take i day),
      take_more day i d h,
      filter_map-append
          (noted_vehicle m k) (take i day) (get_or day i d ∷ []),
      e,
    )
    (seen_push (noted_vehicle m k (get_or day i d)) (filter_map (noted_vehicle m k) (take i day)))

speeds_step : (b e : Bool) (n : Note) (notes : List Note) (v : ℕ) (ss : List ℕ) → (n.vid == v) ≡ e →
    map (λ m. m.spd) (notes_of_vehicle notes v) ≡ ss →
    map (λ m. m.spd) (notes_of_vehicle (cond b (n ∷ notes) notes) v) ≡ cons_option (cond (b && e) (Some n.spd) None) ss
speeds_step true true n notes v ss f h = rw f (ap (λ ws. n.spd ∷ ws) h)
speeds_step true false n notes v ss f h = rw f h
speeds_step false e n notes v ss f h = h

-- the speeds of a vehicle
pub speeds_are : (m : ℕ) (k : Stretch) (v : ℕ) (day : List Tuple) →
    map (λ n. n.spd) (notes_of_vehicle (notes_at (notes_of (reports day)) m k) v) ≡ filter_map (noted_speed m k v) day
speeds_are m k v [] = refl
speeds_are m k v (ReportTuple r ∷ xs) =
    speeds_step (is_noted_at m k (note_of r)) (r.vid == v) (note_of r) (notes_at (notes_of (reports xs)) m k) v _ refl
    (speeds_are m k v xs)
speeds_are m k v (Balance time vid qid ∷ xs) = speeds_are m k v xs
speeds_are m k v (Spent time vid xway qid of_day ∷ xs) = speeds_are m k v xs
speeds_are m k v (Travel time ∷ xs) = speeds_are m k v xs

-- what is given of one more element
pub filter_map_more : {X Y : Type 0} (f : X → Option Y) (xs : List X) (i : ℕ) (d : X) {o : Option Y} → i < length xs →
    o ≡ f (get_or xs i d) → filter_map f (take (i + 1) xs) ≡ filter_map f (take i xs) ++ cons_option o []
filter_map_more f xs i d h e = rw (take_more xs i d h, filter_map-append f (take i xs) (get_or xs i d ∷ []), e) refl

-- what a report of a vehicle adds to the speeds of each
pub speed_given : (v vid spd : ℕ) → cons_option (speed_if v (Some (vid, spd))) [] ≡ cond (vid == v) (spd ∷ []) []
speed_given v vid spd = by (vid == v)
  where
    by : (b : Bool) → cons_option (cond b (Some spd) None) [] ≡ cond b (spd ∷ []) []
    by true = refl
    by false = refl

-- twelve times the mean, by the sum and the number of the speeds
pub speed12_by : (m : ℕ) (k : Stretch) (v : ℕ) (day : List Tuple) →
    speed12 (notes_of_vehicle (notes_at (notes_of (reports day)) m k) v)
    ≡ (12 * sum (filter_map (noted_speed m k v) day)) / length (filter_map (noted_speed m k v) day)
speed12_by m k v day =
    let own = notes_of_vehicle (notes_at (notes_of (reports day)) m k) v in
    let a : sum_by (λ n. n.spd) own ≡ sum (filter_map (noted_speed m k v) day) = sym (sum-map (λ n. n.spd) own)
    ∙ ap sum (speeds_are m k v day) in
    let b : length own ≡ length (filter_map (noted_speed m k v) day) = sym (length-map own (λ n. n.spd))
    ∙ ap length (speeds_are m k v day) in
    rw (a, b) refl

pub few_given : {X Y : Type 0} (f : X → Option Y) (xs : List X) → length (filter_map f xs) ≤ length xs
few_given f [] = omega arith
few_given f (x ∷ xs) = one_given (f x) (filter_map f xs) (length xs) (few_given f xs)
  where
    one_given : {Y : Type 0} (o : Option Y) (ys : List Y) (n : ℕ) → length ys ≤ n → length (cons_option o ys) ≤ suc n
    one_given None ys n h = omega arith
    one_given (Some y) ys n h = omega arith

-- the mean of speeds that are those of the vehicle
pub speed12_from : (m : ℕ) (k : Stretch) (v : ℕ) (day : List Tuple) (speeds : List ℕ) →
    speeds ≡ filter_map (noted_speed m k v) day →
    (12 * sum speeds) / length speeds ≡ speed12 (notes_of_vehicle (notes_at (notes_of (reports day)) m k) v)
speed12_from m k v day speeds e = rw e (sym (speed12_by m k v day))

pub few_speeds : (m : ℕ) (k : Stretch) (v : ℕ) (day : List Tuple) (speeds : List ℕ) →
    speeds ≡ filter_map (noted_speed m k v) day → length speeds ≤ length day
few_speeds m k v day speeds e = rw e (few_given (noted_speed m k v) day)
