-- what is kept, at first and at a later second
use Rattle.std.proofs.Common.{◌≡◌, ℕ, ◌≤◌, ◌<◌, ◌==◌, ◌&&◌, nat_eq, nat_le, not, ⊎_elim, Bool, true, false, [], cond}
use Rattle.std.proofs.Common.{List, ◌∷◌, ◌++◌, refl, sym, ap, ◌∙◌, arith, unwrap_or, Option, Some}
use Rattle.std.specs.List.{list_any, AllByRecursion, IsDistinct}
use Rattle.std.proofs.lemmas.List.{append-nil}
use Rattle.std.proofs.lemmas.List.Elements.{recursion_from_All, filter-append}
use Rattle.std.proofs.lemmas.Bool.{cond-true, cond-false, and_parts, and_from, or_cases, not_from_false, le-leb, lt-leb}
use Rattle.std.proofs.lemmas.Bool.{leb-true, eqb-true, false≢true}
use Rattle.road_time.specs.declared.road.Stretch.{Stretch}
use Rattle.road_time.specs.declared.road.Place.{Place}
use Rattle.road_time.specs.Tuples.{stretch_around, same_stretch, same_place}
use Rattle.road_time.specs.Stops.{Stop, has_accident}
use Rattle.road_time.specs.Entries.{StopEntry, is_standing, standing, standing_at, entries_up_to}
use Rattle.road_time.proofs.SameLaws.{place_is, place_same, number_same}
use Rattle.road_time.proofs.AccidentLaws.{both}
use Rattle.road_time.proofs.StandLaws.{found, given, standing_among}
use Rattle.ways_expressway.specs.declared.spell.Spell.{Spell}
use Rattle.ways_expressway.specs.History.{IsHistory}
use Rattle.ways_expressway.specs.KeptAccidents.{has_stopped, how_many_at, spell_of}
use Rattle.ways_expressway.specs.AccidentsStand.{Stand, is_crowded}
use Rattle.ways_expressway.proofs.Counts.{counted_one, one_counted, counted_two, two_counted}
use Rattle.ways_expressway.proofs.Spells.{history_later}

-- numbers that test as the same are equal
pub number_is : (x y : ℕ) → nat_eq x y ≡ true → x ≡ y
number_is x y h = eqb-true x y h

-- whether another vehicle is at the same place
abbrev shares : List Stop → Stop → Bool
shares ss a = list_any (λ b. same_place a.1 b.1 && not (a.0 == b.0)) ss

-- an accident is two vehicles that stand at one place of the stretch
accident_two : (es : List StopEntry) (k : Stretch) → has_accident (standing es) k ≡ true →
    (p : Place) × (v : ℕ) × (w : ℕ) × (same_stretch (stretch_around p) k ≡ true) × (nat_eq v w ≡ false)
    × (is_standing es v p ≡ true) × (is_standing es w p ≡ true)
accident_two es k h =
    let a = found (λ x. same_stretch (stretch_around x.1) k && shares (standing es) x) (standing es) h in
    let one = and_parts (same_stretch (stretch_around a.0.1) k) (shares (standing es) a.0) a.1 in
    let b = found (λ x. same_place a.0.1 x.1 && not (a.0.0 == x.0)) (standing es) one.1 in
    let two = and_parts (same_place a.0.1 b.0.1) (not (a.0.0 == b.0.0)) b.1 in (
      a.0.1,
      a.0.0,
      b.0.0,
      one.0,
      not_so (a.0.0 == b.0.0) two.1,
      sym (standing_among es a.0) ∙ a.2,
      ap (is_standing es b.0.0) (place_is a.0.1 b.0.1 two.0) ∙ sym (standing_among es b.0) ∙ b.2,
    )
  where
    not_so : (b : Bool) → not b ≡ true → b ≡ false
    not_so true h = absurd (false≢true h)
    not_so false h = refl

-- two vehicles that stand at one place of the stretch are an accident
two_accident : (es : List StopEntry) (k : Stretch) (p : Place) (v w : ℕ) → same_stretch (stretch_around p) k ≡ true →
    nat_eq v w ≡ false → is_standing es v p ≡ true → is_standing es w p ≡ true → has_accident (standing es) k ≡ true
two_accident es k p v w here apart first second =
    given (λ x. same_stretch (stretch_around x.1) k && shares (standing es) x) (standing es) (v, p)
    (and_from (same_stretch (stretch_around p) k) (shares (standing es) (v, p)) here
    (given (λ x. same_place p x.1 && not (v == x.0)) (standing es) (w, p)
    (and_from (same_place p p) (not (v == w)) (place_same p) (not_from_false (v == w) apart))
    (standing_among es (w, p) ∙ second)))
    (standing_among es (v, p) ∙ first)

-- all entries are up to a second that none is after
all_up_to : (second t : ℕ) (es : List StopEntry) → second ≤ t → AllByRecursion (λ e. e.second ≤ second) es →
    entries_up_to t es ≡ es
all_up_to second t [] le h = refl
all_up_to second t (e ∷ es) le h =
    let l = h.0 in
    cond-true (nat_le e.second t) (e ∷ entries_up_to t es) (entries_up_to t es)
    (le-leb e.second t (omega (arith, l, le))) ∙ ap (λ xs. e ∷ xs) (all_up_to second t es le h.1)

-- an entry does not change the seconds before it
pub earlier_same : (es : List StopEntry) (e : StopEntry) (t : ℕ) → t < e.second →
    entries_up_to t (es ++ e ∷ []) ≡ entries_up_to t es
earlier_same es e t lt =
    filter-append (λ x. nat_le x.second t) es (e ∷ [])
    ∙ ap (λ xs. entries_up_to t es ++ xs) (cond-false (nat_le e.second t) (e ∷ []) [] (lt-leb e.second t lt))
    ∙ append-nil (entries_up_to t es)

module _ (second : ℕ) (has : Place → ℕ → Bool) (count : Place → ℕ) (spell : Stretch → Spell) (es : List StopEntry)
    (st : Stand second has count spell es) where
  -- an accident stands now exactly where some place of the stretch is crowded
  pub accident_now : (k : Stretch) → has_accident (standing es) k ≡ nat_le 1 (spell k).places
  accident_now k =
      both (has_accident (standing es) k) (nat_le 1 (spell k).places)
      (λ h. let a = accident_two es k h in
      let many = two_counted nat_eq number_is number_same (has a.0) (count a.0) a.1 a.2 (st.counts a.0) a.4
      (st.standing a.0 a.1 ∙ a.5) (st.standing a.0 a.2 ∙ a.6) in
      le-leb 1 (spell k).places
      (one_counted same_place place_is place_same (is_crowded count k) (spell k).places a.0 (st.places k)
      (and_from (same_stretch (stretch_around a.0) k) (nat_le 2 (count a.0)) a.3 (le-leb 2 (count a.0) many))))
      (λ h. let p = counted_one same_place place_is place_same (is_crowded count k) (spell k).places (st.places k)
      (leb-true 1 (spell k).places h) in
      let parts = and_parts (same_stretch (stretch_around p.0) k) (nat_le 2 (count p.0)) p.1 in
      let w = counted_two nat_eq number_is number_same (has p.0) (count p.0) (st.counts p.0)
      (leb-true 2 (count p.0) parts.1) in
      two_accident es k p.0 w.0 w.1 parts.0 w.2 (sym (st.standing p.0 w.0) ∙ w.3) (sym (st.standing p.0 w.1) ∙ w.4))

  -- from the current second on an accident stands as it does now
  accident_then : (k : Stretch) (t : ℕ) → second ≤ t → has_accident (standing_at es t) k ≡ nat_le 1 (spell k).places
  accident_then k t le =
      ap (λ xs. has_accident (standing xs) k)
      (all_up_to second t es le (recursion_from_All (λ e. e.second ≤ second) es st.none_after)) ∙ accident_now k

  -- at a later second
  pub stand_later : (later : ℕ) → second ≤ later → Stand later has count spell es
  stand_later later le = record {
    none_after = λ i d h. let a = st.none_after i d h in omega (arith, a, le);
    standing = st.standing;
    counts = st.counts;
    places = st.places;
    history = λ k. history_later second later (spell k) (λ t. has_accident (standing_at es t) k) le (accident_then k)
        (st.history k);
  }

-- no accident stood
spell_none : (k : Stretch) →
    IsHistory 0 (record { places = 0; since = 0; last = 0; before = 0 }) (λ t. has_accident (standing_at [] t) k)
spell_none k = record {
  begun = λ p. omega arith;
  ever_since = λ p t a b. absurd (omega arith);
  marked = λ m one near e. ⊎_elim (λ h. let z = eqb-true 0 m h in absurd (omega (arith, z)))
      (λ h. let z = eqb-true 0 m h in absurd (omega (arith, z))) (or_cases (0 == m) (0 == m) e);
  unmarked = λ m one near e t a b c d. absurd (omega arith);
}

-- nobody stands
pub stand_new : Stand 0 (has_stopped []) (how_many_at []) (spell_of []) []
unfolding IsDistinct
stand_new = record {
  none_after = λ i d h. absurd (omega arith);
  standing = λ p v. refl;
  counts = λ p. record { members = []; distinct = tt; each = λ v. refl; many = refl };
  places = λ k. record {
    members = [];
    distinct = tt;
    each =
        λ p. sym (and_no (same_stretch (stretch_around p) k));
    many = refl;
  };
  history = spell_none;
}
  where
    and_no : (b : Bool) → (b && false) ≡ false
    and_no true = refl
    and_no false = refl

-- a count after a look-up changed
pub counted_put : (b : Bool) (n : ℕ) (o w : Option ℕ) → w ≡ cond b (Some n) o → unwrap_or w 0 ≡ cond b n (unwrap_or o 0)
counted_put true n o w e = ap (λ x. unwrap_or x 0) e
counted_put false n o w e = ap (λ x. unwrap_or x 0) e
