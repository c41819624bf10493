-- in how many reports in a row a vehicle was at a place
use Rattle.std.proofs.Common.{◌≡◌, ℕ, ◌+◌, ◌==◌, nat_le, min, true, List, [], ◌∷◌, refl, sym, ap, ◌∙◌, arith}
use Rattle.std.proofs.Common.{Option, Some}
use Rattle.std.proofs.lemmas.Bool.{cond-true}
use Rattle.std.proofs.lemmas.Bool.Decides.{nat_tests}
use Rattle.road_time.specs.declared.road.Report.{Report}
use Rattle.road_time.specs.declared.road.Place.{Place}
use Rattle.road_time.specs.declared.road.LastSeen.{LastSeen}
use Rattle.road_time.specs.Tuples.{place_of, same_place}
use Rattle.road_time.specs.Stops.{run_at, last_seen, stands}
use Rattle.road_time.proofs.SameLaws.{place_is, place_same}
use Rattle.road_time.proofs.EachLaws.{some_is, no_some}

-- one more, counted up to four
min_more : (n : ℕ) → min 4 (1 + n) ≡ min 4 (1 + min 4 n)
min_more n = omega arith

-- a count up to four is four where there are four or more
pub min_four : (n : ℕ) → (min 4 n == 4) ≡ nat_le 4 n
min_four n = grind (arith, nat_tests)

-- one more report at a place, counted up to four
pub run_more : (prev r : Report) (older : List Report) (here : Place) → place_of r ≡ here → place_of prev ≡ here →
    min 4 (run_at (r ∷ prev ∷ older) (place_of r)) ≡ min 4 (1 + min 4 (run_at (prev ∷ older) (place_of prev)))
run_more prev r older here e same =
    ap (min 4)
    (cond-true (same_place (place_of r) (place_of r)) (1 + run_at (prev ∷ older) (place_of r)) 0
    (place_same (place_of r)) ∙ ap (λ p. 1 + run_at (prev ∷ older) p) (e ∙ sym same))
    ∙ min_more (run_at (prev ∷ older) (place_of prev))

-- two states of a vehicle with the same parts
seen_made : {p q : Place} {m n : ℕ} → p ≡ q → m ≡ n →
    ◌≡◌ {A = Option LastSeen} (Some (record { place = p; run = m })) (Some (record { place = q; run = n }))
seen_made e f = rw (e, f) refl

-- the parts of what is known of a vehicle that was seen
pub last_seen_is : (own : List Report) (r : Report) (now : LastSeen) → last_seen (r ∷ own) ≡ Some now →
    (now.place ≡ place_of r) × (now.run ≡ min 4 (run_at (r ∷ own) (place_of r)))
last_seen_is own r now h = (
  ap (λ s. s.place)
      (sym (some_is (record { place = place_of r; run = min 4 (run_at (r ∷ own) (place_of r)) }) now h)),
  ap (λ s. s.run)
      (sym (some_is (record { place = place_of r; run = min 4 (run_at (r ∷ own) (place_of r)) }) now h)),
)

-- one more of a run
pub last_seen_more : (own : List Report) (r : Report) (here : Place) (last : LastSeen) (n : ℕ) →
    last_seen own ≡ Some last → place_of r ≡ here → same_place last.place here ≡ true → min 4 (1 + last.run) ≡ n →
    last_seen (r ∷ own) ≡ Some (record { place = here; run = n })
last_seen_more [] r here last n k e h f = absurd (no_some last k)
last_seen_more (prev ∷ older) r here last n k e h f =
    let was = last_seen_is older prev last k in
    seen_made e
    (run_more prev r older here e (sym was.0 ∙ place_is last.place here h) ∙ ap (λ m. min 4 (1 + m)) (sym was.1) ∙ f)

-- a run of four is a stand
pub run_stands : (own : List Report) (r : Report) (now : LastSeen) → last_seen (r ∷ own) ≡ Some now →
    (now.run == 4) ≡ stands (r ∷ own) (place_of r)
run_stands own r now h = ap (λ n. n == 4) (last_seen_is own r now h).1 ∙ min_four (run_at (r ∷ own) (place_of r))
