-- the parts of one note more: its filters, its sums, its rings
use Rattle.std.proofs.Common.{◌≡◌, ℕ, suc, ◌+◌, ◌*◌, ◌≤◌, ◌<◌, ◌==◌, ◌&&◌, not, ⊎_elim, Bool, true, false, cond, []}
use Rattle.std.proofs.Common.{List, ◌∷◌, ◌++◌, length, map, refl, sym, ap, subst, ◌∙◌, arith, Option, Some, unwrap_or}
use Rattle.std.specs.List.{filter, sum_by, All, AllByRecursion}
use Rattle.std.specs.Map.{lookup}
use Rattle.std.proofs.lemmas.List.{append-nil, length_push}
use Rattle.std.proofs.lemmas.List.Elements.{filter-append, recursion_from_All}
use Rattle.std.proofs.lemmas.List.Sums.{sum_by-cons, sum_by_push}
use Rattle.std.proofs.lemmas.Bool.{cases_Bool, cond_both, cond-true, cond-false, and_left, ne_eqb, eq-eqb}
use Rattle.road_time.specs.declared.road.Stretch.{Stretch}
use Rattle.road_time.specs.Tuples.{same_stretch}
use Rattle.road_time.specs.Notes.{Note, has, cars, speeds12, is_noted_at, notes_at, notes_of_vehicle}
use Rattle.road_time.specs.Lav.{CarFlow, flow_at}
use Rattle.ways_expressway.specs.KeptSpeeds.{KeptSpeeds}
use Rattle.ways_expressway.specs.declared.this_minute.Car.{Car}
use Rattle.ways_expressway.specs.declared.this_minute.Sum.{Sum}
use Rattle.ways_expressway.specs.declared.window.Flow.{Flow as CodeFlow}
use Rattle.ways_expressway.specs.declared.window.Ring.{Ring}
use Rattle.ways_expressway.specs.Parts.{shown_flow, no_flow, no_sum, more, sum_for, ring_flow, flow_of, IsSmall, AreSmall}
use Rattle.ways_expressway.specs.SpeedsStand.{StandsFor}

-- stretches

-- two stretches by their parts
same_parts : {a b c x y z : ℕ} → a ≡ x → b ≡ y → c ≡ z →
    ◌≡◌ {A = Stretch} (record { xway = a; dir = b; seg = c }) (record { xway = x; dir = y; seg = z })
same_parts p q r = cc

-- no note is of a later minute

-- no note of a minute above all
none_by : (ns : List Note) (low m : ℕ) (k : Stretch) → low < m → AllByRecursion (λ n. n.minute ≤ low) ns →
    notes_at ns m k ≡ []
none_by [] low m k h l = refl
none_by (n ∷ ns) low m k h l =
    cond-false (is_noted_at m k n) _ _
    (and_left (n.minute == m) (same_stretch n.stretch k) (ne_eqb n.minute m (λ e. absurd (omega (arith, l.0)))))
    ∙ none_by ns low m k h l.1

-- no note is of a minute after the current one
pub none_later : (ns : List Note) (low m : ℕ) (k : Stretch) → low < m → All (λ n. n.minute ≤ low) ns →
    notes_at ns m k ≡ []
none_later ns low m k h l = none_by ns low m k h (recursion_from_All (λ n. n.minute ≤ low) ns l)

-- the vehicle's notes of the minute

-- one note more, counted or not
within : (r : Note → Bool) (x : Note) (xs : List Note) (n : ℕ) → n ≤ length (filter r xs) →
    n ≤ length (filter r (x ∷ xs))
within r x xs n h = cond_both (r x) (x ∷ filter r xs) (filter r xs) (λ zs. n ≤ length zs) (λ _. omega (arith, h))
    (λ _. h)

-- a filter of a filter keeps no more
pub narrow : (p q r : Note → Bool) → ((x : Note) → q x ≡ true → p x ≡ true → r x ≡ true) → (xs : List Note) →
    length (filter p (filter q xs)) ≤ length (filter r xs)
narrow p q r h [] = omega arith
narrow p q r h (x ∷ xs) =
    let rest = narrow p q r h xs in
    cond_both (q x) (x ∷ filter q xs) (filter q xs) (λ zs. length (filter p zs) ≤ length (filter r (x ∷ xs)))
    (λ e. cond_both (p x) (x ∷ filter p (filter q xs)) (filter p (filter q xs))
    (λ zs. length zs ≤ length (filter r (x ∷ xs)))
    (λ f. rw (cond-true (r x) (x ∷ filter r xs) (filter r xs) (h x e f)) (omega (arith, rest)))
    (λ _. within r x xs _ rest))
    (λ _. within r x xs _ rest)

-- two tests that pass
pub of_both : (a b c : Bool) → (a && b) ≡ true → c ≡ true → (a && c) ≡ true
of_both true b c h e = e
of_both false b c h e = h

-- speeds of at most 100 sum up to at most that for each
pub slow_sum : (ns : List Note) → AllByRecursion (λ n. n.spd ≤ 100) ns → sum_by (λ n. n.spd) ns ≤ 100 * length ns
slow_sum [] h = omega arith
slow_sum (n ∷ ns) h = let rest = slow_sum ns h.1 in omega (arith, h.0, rest, sum_by-cons (λ x. x.spd) n ns)

-- two sums by their parts
sum_made : {a b c d : ℕ} → a ≡ c → b ≡ d →
    ◌≡◌ {A = Sum} (record { total = a; count = b }) (record { total = c; count = d })
sum_made p q = cc

-- two flows by their parts
pub flow_made : {a b c d : ℕ} → a ≡ c → b ≡ d →
    ◌≡◌ {A = CarFlow} (record { cars = a; speeds12 = b }) (record { cars = c; speeds12 = d })
flow_made p q = cc

-- a flow of nothing is no flow
pub nothing : (f : CodeFlow) → shown_flow f ≡ record { cars = 0; speeds12 = 0 } → f ≡ no_flow
nothing f e = none f.cars f.speeds12 (ap (λ g. g.cars) e) (ap (λ g. g.speeds12) e)
  where
    none : (a b : ℕ) → a ≡ 0 → b ≡ 0 →
        ◌≡◌ {A = CodeFlow} (record { cars = a; speeds12 = b }) (record { cars = 0; speeds12 = 0 })
    none a b p q = cc

-- the speeds of one more
pub more_sum : (ns : List Note) (n : Note) → sum_for (ns ++ n ∷ []) ≡ more (sum_for ns) n.spd
more_sum ns n = sum_made (sum_by_push (λ x. x.spd) ns n) (length_push ns n)

-- a number above others is not 0
not_zero : (i : ℕ) → (suc i == 0) ≡ false
not_zero i = ne_eqb (suc i) 0 (λ e. absurd (omega (arith, e)))

-- whether a vehicle is noted, by the number of its notes
pub noted_count : (here : List Note) (v : ℕ) →
    (length (notes_of_vehicle here v) == 0) ≡ not (has (map (λ n. n.vid) here) v)
noted_count [] v = refl
noted_count (x ∷ xs) v =
    ⊎_elim (λ e. rw e (not_zero (length (notes_of_vehicle xs v)))) (λ e. rw e (noted_count xs v))
    (cases_Bool (x.vid == v))

-- a filter of one note or none
tail_of : (q : Note → Bool) (n : Note) (a : Bool) → filter q (cond a (n ∷ []) []) ≡ cond (a && q n) (n ∷ []) []
tail_of q n true = refl
tail_of q n false = refl

-- a vehicle's notes here, after one more note
pub own_push : (ns : List Note) (n : Note) (j : Stretch) (w : ℕ) →
    notes_of_vehicle (notes_at (ns ++ n ∷ []) n.minute j) w ≡ notes_of_vehicle (notes_at ns n.minute j) w
    ++ cond (same_stretch n.stretch j && n.vid == w) (n ∷ []) []
own_push ns n j w =
    ap (λ zs. notes_of_vehicle zs w) (filter-append (is_noted_at n.minute j) ns (n ∷ []))
    ∙ filter-append (λ x. x.vid == w) (notes_at ns n.minute j) (cond (is_noted_at n.minute j n) (n ∷ []) [])
    ∙ ap (λ zs. notes_of_vehicle (notes_at ns n.minute j) w ++ zs)
    (tail_of (λ x. x.vid == w) n (is_noted_at n.minute j n)
    ∙ ap (λ b. cond ((b && same_stretch n.stretch j) && n.vid == w) (n ∷ []) []) (eq-eqb n.minute n.minute refl))

-- the speeds with one more or not
pub pick : (b : Bool) (own : List Note) (n : Note) →
    sum_for (own ++ cond b (n ∷ []) []) ≡ cond b (more (sum_for own) n.spd) (sum_for own)
pick true own n = more_sum own n
pick false own n = ap sum_for (append-nil own)

-- notes up to a minute are up to a later one
pub all_later : (ns : List Note) (low m : ℕ) → low < m → All (λ n. n.minute ≤ low) ns → All (λ n. n.minute ≤ m) ns
all_later ns low m h l = λ i d e. omega (arith, h, l i d e)

-- the speeds that a look-up gives after one was put in
pub put_sum : (b : Bool) (after before : Option Sum) (x : Sum) → after ≡ cond b (Some x) before →
    unwrap_or after no_sum ≡ cond b x (unwrap_or before no_sum)
put_sum true after before x e = ap (λ o. unwrap_or o no_sum) e
put_sum false after before x e = ap (λ o. unwrap_or o no_sum) e

-- a ring that is kept has small flows
pub ring_small : (rings : List (Stretch × Ring)) → AreSmall rings → (k : Stretch) (ring : Ring) →
    Some ring ≡ lookup (same_stretch k) rings → (f : CodeFlow) (m : ℕ) → f ≡ ring_flow ring m → IsSmall f
ring_small rings small k ring there f m e = subst IsSmall (sym (e ∙ ap (λ o. flow_of o m) there)) (small k m)

-- small flows stay so where one ring is put among them
pub small_after : (rings : List (Stretch × Ring)) → AreSmall rings → (k : Stretch) (ring' : Ring) →
    ((m : ℕ) → IsSmall (ring_flow ring' m)) → (after : List (Stretch × Ring)) → ((j : Stretch) →
    lookup (same_stretch j) after ≡ cond (same_stretch k j) (Some ring') (lookup (same_stretch j) rings)) →
    AreSmall after
small_after rings small k ring' each after h = λ j m.
    subst (λ o. IsSmall (flow_of o m)) (sym (h j))
    (cond_both (same_stretch k j) (Some ring') (lookup (same_stretch j) rings) (λ o. IsSmall (flow_of o m))
    (λ _. each m) (λ _. small j m))

-- what a ring that is there says
pub ring_is : (s : KeptSpeeds) (notes : List Note) (st : StandsFor s notes) (k : Stretch) (ring : Ring) →
    Some ring ≡ lookup (same_stretch k) s.rings → (f : CodeFlow) (m : ℕ) → f ≡ ring_flow ring m → (j : ℕ) → m ≡ j →
    s.minute < m + 6 → shown_flow f ≡ flow_at notes k j
ring_is s notes st k ring there f m e j same h = ap shown_flow (e ∙ ap (λ o. flow_of o m) there) ∙ st.flows k m h
    ∙ ap (flow_at notes k) same

-- what is kept, by its parts
pub kept_made : {m m' : ℕ} {a a' : List (Car × Sum)} {b b' : List (Stretch × Ring)} → m ≡ m' → a ≡ a' → b ≡ b' →
    ◌≡◌ {A = KeptSpeeds} (record { minute = m; seen = a; rings = b }) (record { minute = m'; seen = a'; rings = b' })
kept_made p q r = cc

-- one more note, of what is seen so
