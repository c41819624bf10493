-- the flow of a stretch in a minute depends on its reports of that minute alone
use Rattle.std.proofs.Common.{◌≡◌, ℕ, ◌+◌, ◌≤◌, ◌&&◌, nat_lt, Bool, true, false, cond, List, [], ◌∷◌, ◌++◌, length}
use Rattle.std.proofs.Common.{refl, sym, ap, ◌∙◌, arith, Option, Some, None}
use Rattle.std.specs.Global.{Vec}
use Rattle.std.specs.List.{filter, sum_by}
use Rattle.std.proofs.lemmas.List.{append-nil}
use Rattle.road_time.specs.declared.road.Tuple.{Tuple}
use Rattle.road_time.specs.declared.road.Tuple.TheVariants.{Report as ReportTuple, Balance, Spent, Travel}
use Rattle.road_time.specs.declared.road.Stretch.{Stretch}
use Rattle.road_time.specs.Tuples.{reports}
use Rattle.road_time.specs.Notes.{note_of, notes_at, vehicles_of, notes_of_vehicle, speed12}
use Rattle.road_time.specs.Lav.{CarFlow, flow_at}
use Rattle.road_time.specs.Tolls.{notes_of}
use Rattle.road_time.proofs.NoteLaws.{filter-le}
use Rattle.road_rules.specs.declared.spots.Spot.{Spot}
use Rattle.road_rules.specs.Gathered.{is_of, kept_items}
use Rattle.road_rules.specs.declared.halts.Halt.{Halt}
use Rattle.road_rules.specs.Halts.{is_in, is_about, is_before}

-- what is kept of each key, after the first of one
pub first_kept : {K X : Type 0} (same : K → K → Bool) → ((a b : K) → same a b ≡ true → a ≡ b) →
    (before after : K → Option (Vec X)) (key : K) (there : Vec X) (x : X) →
    before key ≡ None → there.items ≡ x ∷ [] → ((k : K) → after k ≡ cond (same key k) (Some there) (before k)) →
    (k : K) → kept_items (after k) ≡ kept_items (before k) ++ cond (same key k) (x ∷ []) []
first_kept {K} {X} same is before after key there x none items now k = ap kept_items (now k) ∙ step (same key k) refl
  where
    step : (b : Bool) → same key k ≡ b →
        kept_items (cond b (Some there) (before k)) ≡ kept_items (before k) ++ cond b (x ∷ []) []
    step true e = items ∙ ap (λ (xs : List X). xs ++ x ∷ []) (sym (ap kept_items (ap before (sym (is key k e)) ∙ none)))
    step false e = sym (append-nil (kept_items (before k)))

-- halts of a stretch that touch a minute are among those of the stretch
pub about_in : (start : ℕ) (k : Stretch) (hs : List Halt) →
    filter (is_about start k) (filter (is_in k) hs) ≡ filter (is_about start k) hs
about_in start k [] = refl
about_in start k (h ∷ hs) = step (is_in k h) refl (about_in start k hs)
  where
    touches : Bool
    touches = nat_lt h.from (start + 60) && is_before start h.to

    step : (b : Bool) → is_in k h ≡ b → filter (is_about start k) (filter (is_in k) hs) ≡ filter (is_about start k) hs →
        filter (is_about start k) (cond b (h ∷ filter (is_in k) hs) (filter (is_in k) hs)) ≡ cond (b && touches)
        (h ∷ filter (is_about start k) hs) (filter (is_about start k) hs)
    step true e ih =
        ap (λ b. cond (b && touches) (h ∷ filter (is_about start k) (filter (is_in k) hs))
        (filter (is_about start k) (filter (is_in k) hs))) e ∙ ap (λ xs. cond touches (h ∷ xs) xs) ih
    step false e ih = ih

module _ (s : Spot) where
  notes_there : (day : List Tuple) → notes_at (notes_of (reports (filter (is_of s) day))) s.minute s.stretch ≡ notes_at
      (notes_of (reports day)) s.minute s.stretch
  notes_there [] = refl
  notes_there (ReportTuple r ∷ xs) = step (is_of s (ReportTuple r)) refl (notes_there xs)
    where
      step : (b : Bool) → is_of s (ReportTuple r) ≡ b →
          notes_at (notes_of (reports (filter (is_of s) xs))) s.minute s.stretch ≡ notes_at
          (notes_of (reports xs)) s.minute s.stretch →
          notes_at (notes_of (reports (cond b (ReportTuple r ∷ filter (is_of s) xs) (filter (is_of s) xs)))) s.minute
          s.stretch ≡ cond b (note_of r ∷ notes_at (notes_of (reports xs)) s.minute s.stretch)
          (notes_at (notes_of (reports xs)) s.minute s.stretch)
      step true e ih =
          ap (λ b. cond b (note_of r ∷ notes_at (notes_of (reports (filter (is_of s) xs))) s.minute s.stretch)
          (notes_at (notes_of (reports (filter (is_of s) xs))) s.minute s.stretch)) e ∙ ap (λ ns. note_of r ∷ ns) ih
      step false e ih = ih
  notes_there (Balance time vid qid ∷ xs) = notes_there xs
  notes_there (Spent time vid xway qid day ∷ xs) = notes_there xs
  notes_there (Travel time ∷ xs) = notes_there xs

  -- the flow of the spot, by its reports
  pub flow_there : (day : List Tuple) → flow_at (notes_of (reports (filter (is_of s) day))) s.stretch s.minute ≡ flow_at
      (notes_of (reports day)) s.stretch s.minute
  flow_there day =
      ap (λ ns. record {
        cars = length (vehicles_of ns);
        speeds12 =
            sum_by (λ v. speed12 (notes_of_vehicle ns v)) (vehicles_of ns);
      }) (notes_there day)

  -- no reports, no flow
  pub flow_none : (day : List Tuple) → filter (is_of s) day ≡ [] →
      ◌≡◌ {A = CarFlow} (record { cars = 0; speeds12 = 0 }) (flow_at (notes_of (reports day)) s.stretch s.minute)
  flow_none day none = sym (ap (λ xs. flow_at (notes_of (reports xs)) s.stretch s.minute) none) ∙ flow_there day

  -- they are no more than the day has
  pub fewer_there : (day there : List Tuple) (n : ℕ) → there ≡ filter (is_of s) day → length day ≤ n → length there ≤ n
  fewer_there day there n e h = let f = filter-le (is_of s) day in omega (arith, ap length e, f, h)
