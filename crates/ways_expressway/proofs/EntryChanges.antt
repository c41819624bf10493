-- what is kept, after one more entry
use Rattle.std.proofs.Common.{◌≡◌, ℕ, ◌+◌, ◌-◌, ◌≤◌, ◌==◌, ◌&&◌, nat_eq, nat_le, ⊎_elim, Bool, true, false, [], cond}
use Rattle.std.proofs.Common.{List, ◌∷◌, ◌++◌, refl, sym, ap, ◌∙◌, arith, subst}
use Rattle.std.proofs.lemmas.List.Elements.{All-push}
use Rattle.std.proofs.lemmas.Bool.{cases_Bool, cond-true, cond-false, and_parts, and_from, eqb-true}
use Rattle.std.proofs.lemmas.Bool.Decides.{nat_tests}
use Rattle.road_time.specs.declared.road.Stretch.{Stretch}
use Rattle.road_time.specs.declared.road.Place.{Place}
use Rattle.road_time.specs.Tuples.{stretch_around, same_stretch, same_place}
use Rattle.road_time.specs.Stops.{has_accident}
use Rattle.road_time.specs.Entries.{StopEntry, is_standing, standing, standing_at}
use Rattle.road_time.proofs.SameLaws.{stretch_is, place_is, place_same, number_same}
use Rattle.road_time.proofs.EntryLaws.{standing_push}
use Rattle.ways_expressway.specs.declared.spell.Spell.{Spell}
use Rattle.ways_expressway.specs.Counted.{AreSoMany}
use Rattle.ways_expressway.specs.History.{IsHistory}
use Rattle.ways_expressway.specs.AccidentsStand.{Stand, is_crowded}
use Rattle.ways_expressway.proofs.Counts.{counted_more, counted_less, counted_same}
use Rattle.ways_expressway.proofs.Spells.{history_same}
use Rattle.ways_expressway.proofs.Changes.{number_is, earlier_same}

module _ (second : ℕ) (has : Place → ℕ → Bool) (count : Place → ℕ) (spell : Stretch → Spell) (es : List StopEntry)
    (st : Stand second has count spell es) where
  module _ (vid : ℕ) (place : Place) (stops : Bool) where
    -- one entry more, at the current second
    abbrev pub entry : StopEntry
    entry = record { second = second; vid = vid; place = place; stops = stops }

    -- an entry at the current second leaves the history as it was
    history_more : (k : Stretch) (s : Spell) → IsHistory second s (λ t. has_accident (standing_at es t) k) →
        IsHistory second s (λ t. has_accident (standing_at (es ++ entry ∷ []) t) k)
    history_more k s h =
        history_same second s (λ t. has_accident (standing_at es t) k)
        (λ t. has_accident (standing_at (es ++ entry ∷ []) t) k)
        (λ t lt. ap (λ xs. has_accident (standing xs) k) (sym (earlier_same es entry t lt))) h

    -- an entry that changes nothing
    pub stand_idle : has place vid ≡ stops → Stand second has count spell (es ++ entry ∷ [])
    stand_idle same = record {
      none_after = All-push (λ e. e.second ≤ second) es entry st.none_after (omega arith);
      standing = λ p v. st.standing p v ∙ sym (standing_push es entry v p ∙ kept p v);
      counts = st.counts;
      places = st.places;
      history = λ k. history_more k (spell k) (st.history k);
    }
      where
        kept : (p : Place) (v : ℕ) → cond (vid == v && same_place place p) stops (is_standing es v p)
            ≡ is_standing es v p
        kept p v =
            ⊎_elim
            (λ e. let parts = and_parts (vid == v) (same_place place p) e in
            ap (λ b. cond b stops (is_standing es v p)) e ∙ sym same ∙ ap (λ x. has place x) (eqb-true vid v parts.0)
            ∙ ap (λ x. has x v) (place_is place p parts.1) ∙ st.standing p v)
            (λ e. ap (λ b. cond b stops (is_standing es v p)) e)
            (cases_Bool (vid == v && same_place place p))

    module _ (has' : Place → ℕ → Bool) (count' : Place → ℕ) (spell' : Stretch → Spell)
        (put : (p : Place) (v : ℕ) → has' p v ≡ cond (vid == v && same_place place p) stops (has p v))
        (others : (k : Stretch) → same_stretch (stretch_around place) k ≡ false → spell' k ≡ spell k)
        (past : (stood_at : ℕ → Bool) → IsHistory second (spell (stretch_around place)) stood_at →
        IsHistory second (spell' (stretch_around place)) stood_at) where
      -- at the place of the entry
      put_here : (p : Place) (v : ℕ) → same_place place p ≡ true → has' p v ≡ cond (nat_eq vid v) stops (has p v)
      put_here p v e = put p v ∙ ap (λ b. cond b stops (has p v)) (ap (λ b. (vid == v) && b) e ∙ and_true (vid == v))
        where
          and_true : (b : Bool) → (b && true) ≡ b
          and_true true = refl
          and_true false = refl

      -- at another place
      put_there : (p : Place) (v : ℕ) → same_place place p ≡ false → has' p v ≡ has p v
      put_there p v e = put p v ∙ ap (λ b. cond b stops (has p v)) (ap (λ b. (vid == v) && b) e ∙ and_false (vid == v))
        where
          and_false : (b : Bool) → (b && false) ≡ false
          and_false true = refl
          and_false false = refl

      -- an entry that changes who stands
      stand_changed : ((p : Place) → AreSoMany nat_eq (has' p) (count' p)) →
          ((k : Stretch) → AreSoMany same_place (is_crowded count' k) (spell' k).places) →
          Stand second has' count' spell' (es ++ entry ∷ [])
      stand_changed counts places = record {
        none_after = All-push (λ e. e.second ≤ second) es entry st.none_after (omega arith);
        standing = λ p v. put p v ∙ ap (cond (vid == v && same_place place p) stops) (st.standing p v)
            ∙ sym (standing_push es entry v p);
        counts = counts;
        places = places;
        history = λ k.
            ⊎_elim
            (λ e. let same : stretch_around place ≡ k = stretch_is (stretch_around place) k e in
            rw (← same)
            (history_more (stretch_around place) (spell' (stretch_around place))
            (past (λ t. has_accident (standing_at es t) (stretch_around place))
            (st.history (stretch_around place)))))
            (λ e. rw (others k e) (history_more k (spell k) (st.history k)))
            (cases_Bool (same_stretch (stretch_around place) k));
      }

      -- a place elsewhere is crowded as it was
      crowd_there : (n : ℕ) → ((p : Place) → count' p ≡ cond (same_place place p) n (count p)) →
          (k : Stretch) (p : Place) → same_place place p ≡ false → is_crowded count' k p ≡ is_crowded count k p
      crowd_there n now k p e =
          ap (λ m. same_stretch (stretch_around p) k && nat_le 2 m)
          (now p ∙ cond-false (same_place place p) n (count p) e)

      -- in another stretch
      places_there : (n : ℕ) → ((p : Place) → count' p ≡ cond (same_place place p) n (count p)) → (k : Stretch) →
          same_stretch (stretch_around place) k ≡ false → AreSoMany same_place (is_crowded count' k) (spell' k).places
      places_there n now k e =
          counted_same same_place place_is place_same (is_crowded count k) (is_crowded count' k) (spell k).places
          (spell' k).places (st.places k) (ap (λ s. s.places) (sym (others k e)))
          (λ p. ⊎_elim
          (λ h. let away : same_stretch (stretch_around p) k ≡ false =
          ap (λ q. same_stretch (stretch_around q) k) (sym (place_is place p h)) ∙ e in
          ap (λ b. b && nat_le 2 (count' p)) away ∙ sym (ap (λ b. b && nat_le 2 (count p)) away))
          (λ h. crowd_there n now k p h)
          (cases_Bool (same_place place p)))

      -- the stretch of the entry
      abbrev here : Stretch
      here = stretch_around place

      -- a stretch is the same as itself
      itself : same_stretch here here ≡ true
      itself = and_from (place.xway == place.xway) (place.dir == place.dir && place.seg == place.seg)
          (number_same place.xway)
          (and_from (place.dir == place.dir) (place.seg == place.seg) (number_same place.dir) (number_same place.seg))

      -- whether the place of the entry is crowded
      crowd_here : (c : Place → ℕ) → is_crowded c here place ≡ nat_le 2 (c place)
      crowd_here c = ap (λ b. b && nat_le 2 (c place)) itself

      -- whether the place is crowded changed or not
      places_here : (n m : ℕ) → ((p : Place) → count' p ≡ cond (same_place place p) n (count p)) →
          (spell' here).places ≡ m → (nat_le 2 n ≡ nat_le 2 (count place) → m ≡ (spell here).places →
          AreSoMany same_place (is_crowded count' here) (spell' here).places)
      places_here n m now e same less =
          counted_same same_place place_is place_same (is_crowded count here) (is_crowded count' here)
          (spell here).places (spell' here).places (st.places here) (sym (e ∙ less))
          (λ p. ⊎_elim
          (λ h. rw (← place_is place p h)
          (crowd_here count'
          ∙ ap (nat_le 2) (now place ∙ cond-true (same_place place place) n (count place) (place_same place)) ∙ same
          ∙ sym (crowd_here count)))
          (λ h. crowd_there n now here p h)
          (cases_Bool (same_place place p)))

      -- the places of the stretch that are crowded, after the entry
      crowd_step : (n : ℕ) → ((p : Place) → count' p ≡ cond (same_place place p) n (count p)) → (p : Place) →
          is_crowded count' here p ≡ cond (same_place place p) (nat_le 2 n) (is_crowded count here p)
      crowd_step n now p =
          ⊎_elim
          (λ h. rw h
          (rw (← place_is place p h)
          (crowd_here count'
          ∙ ap (nat_le 2) (now place ∙ cond-true (same_place place place) n (count place) (place_same place)))))
          (λ h. rw h (crowd_there n now here p h))
          (cases_Bool (same_place place p))

    module _ (has' : Place → ℕ → Bool) (count' : Place → ℕ) (spell' : Stretch → Spell) (k : Stretch)
        (at : k ≡ stretch_around place)
        (put : (p : Place) (v : ℕ) → has' p v ≡ cond (vid == v && same_place place p) stops (has p v))
        (others : (j : Stretch) → same_stretch k j ≡ false → spell' j ≡ spell j)
        (past : (stood_at : ℕ → Bool) → IsHistory second (spell k) stood_at →
        IsHistory second (spell' k) stood_at) where
      -- the other stretches, where this one is named
      others_at : (j : Stretch) → same_stretch (stretch_around place) j ≡ false → spell' j ≡ spell j
      others_at j h = others j (ap (λ x. same_stretch x j) at ∙ h)

      -- the history, where the stretch is named
      past_at : (stood_at : ℕ → Bool) → IsHistory second (spell (stretch_around place)) stood_at →
          IsHistory second (spell' (stretch_around place)) stood_at
      past_at =
          subst (λ x. (stood_at : ℕ → Bool) → IsHistory second (spell x) stood_at →
          IsHistory second (spell' x) stood_at) at past

      -- a vehicle that stops
      pub stand_stops : stops ≡ true → has place vid ≡ false →
          ((p : Place) → count' p ≡ cond (same_place place p) (count place + 1) (count p)) →
          (spell' k).places ≡ (spell k).places + cond (nat_eq (count place) 1) 1 0 →
          Stand second has' count' spell' (es ++ entry ∷ [])
      stand_stops on new now more =
          stand_changed has' count' spell' put others_at past_at
          (λ p. ⊎_elim (λ e. rw (← place_is place p e) counts_here) (λ e. counts_there p e)
          (cases_Bool (same_place place p)))
          (λ j. ⊎_elim
          (λ e. rw (← stretch_is (stretch_around place) j e) places_now)
          (λ e. places_there has' count' spell' put others_at past_at (count place + 1) now j e)
          (cases_Bool (same_stretch (stretch_around place) j)))
        where
          counts_here : AreSoMany nat_eq (has' place) (count' place)
          counts_here =
              counted_same nat_eq number_is number_same (has' place) (has' place) (count place + 1) (count' place)
              (counted_more nat_eq number_is number_same (has place) (has' place) (count place) vid
              (st.counts place) new
              (λ v. put_here has' count' spell' put others_at past_at place v (place_same place)
              ∙ ap (λ b. cond (nat_eq vid v) b (has place v)) on))
              (sym (now place ∙ cond-true (same_place place place) (count place + 1) (count place) (place_same place)))
              (λ v. refl)

          counts_there : (p : Place) → same_place place p ≡ false → AreSoMany nat_eq (has' p) (count' p)
          counts_there p e =
              counted_same nat_eq number_is number_same (has p) (has' p) (count p) (count' p) (st.counts p)
              (sym (now p ∙ cond-false (same_place place p) (count place + 1) (count p) e))
              (λ v. put_there has' count' spell' put others_at past_at p v e)

          more_at : (spell' (stretch_around place)).places ≡ (spell (stretch_around place)).places + cond
              (nat_eq (count place) 1) 1 0
          more_at = subst (λ x. (spell' x).places ≡ (spell x).places + cond (nat_eq (count place) 1) 1 0) at more

          places_now : AreSoMany same_place (is_crowded count' (stretch_around place))
              (spell' (stretch_around place)).places
          places_now =
              ⊎_elim
              (λ one. let c : count place ≡ 1 = eqb-true (count place) 1 one in
              counted_same same_place place_is place_same (is_crowded count' (stretch_around place))
              (is_crowded count' (stretch_around place)) ((spell (stretch_around place)).places + 1)
              (spell' (stretch_around place)).places
              (counted_more same_place place_is place_same (is_crowded count (stretch_around place))
              (is_crowded count' (stretch_around place)) (spell (stretch_around place)).places place
              (st.places (stretch_around place))
              (crowd_here has' count' spell' put others_at past_at count ∙ ap (nat_le 2) c)
              (λ p. crowd_step has' count' spell' put others_at past_at (count place + 1) now p
              ∙ ap (λ n. cond (same_place place p) (nat_le 2 (n + 1)) (is_crowded count (stretch_around place) p))
              c))
              (sym (more_at ∙ ap (λ b. (spell (stretch_around place)).places + cond b 1 0) one)) (λ p. refl))
              (λ other. places_here has' count' spell' put others_at past_at (count place + 1) _ now more_at
              (not_one (count place) other) (ap (λ b. (spell (stretch_around place)).places + cond b 1 0) other
              ∙ (omega arith)))
              (cases_Bool (nat_eq (count place) 1))
            where
              not_one : (n : ℕ) → nat_eq n 1 ≡ false → nat_le 2 (n + 1) ≡ nat_le 2 n
              not_one n h = grind (arith, nat_tests)

      -- a vehicle that leaves
      pub stand_leaves : stops ≡ false → has place vid ≡ true →
          ((p : Place) → count' p ≡ cond (same_place place p) (count place - 1) (count p)) →
          (spell' k).places ≡ (spell k).places - cond (nat_eq (count place) 2) 1 0 →
          Stand second has' count' spell' (es ++ entry ∷ [])
      stand_leaves off there now less =
          stand_changed has' count' spell' put others_at past_at
          (λ p. ⊎_elim (λ e. rw (← place_is place p e) counts_here) (λ e. counts_there p e)
          (cases_Bool (same_place place p)))
          (λ j. ⊎_elim
          (λ e. rw (← stretch_is (stretch_around place) j e) places_now)
          (λ e. places_there has' count' spell' put others_at past_at (count place - 1) now j e)
          (cases_Bool (same_stretch (stretch_around place) j)))
        where
          counts_here : AreSoMany nat_eq (has' place) (count' place)
          counts_here =
              counted_same nat_eq number_is number_same (has' place) (has' place) (count place - 1) (count' place)
              (counted_less nat_eq number_is number_same (has place) (has' place) (count place) vid
              (st.counts place) there
              (λ v. put_here has' count' spell' put others_at past_at place v (place_same place)
              ∙ ap (λ b. cond (nat_eq vid v) b (has place v)) off))
              (sym (now place ∙ cond-true (same_place place place) (count place - 1) (count place) (place_same place)))
              (λ v. refl)

          counts_there : (p : Place) → same_place place p ≡ false → AreSoMany nat_eq (has' p) (count' p)
          counts_there p e =
              counted_same nat_eq number_is number_same (has p) (has' p) (count p) (count' p) (st.counts p)
              (sym (now p ∙ cond-false (same_place place p) (count place - 1) (count p) e))
              (λ v. put_there has' count' spell' put others_at past_at p v e)

          less_at : (spell' (stretch_around place)).places ≡ (spell (stretch_around place)).places - cond
              (nat_eq (count place) 2) 1 0
          less_at = subst (λ x. (spell' x).places ≡ (spell x).places - cond (nat_eq (count place) 2) 1 0) at less

          places_now : AreSoMany same_place (is_crowded count' (stretch_around place))
              (spell' (stretch_around place)).places
          places_now =
              ⊎_elim
              (λ two. let c : count place ≡ 2 = eqb-true (count place) 2 two in
              counted_same same_place place_is place_same (is_crowded count' (stretch_around place))
              (is_crowded count' (stretch_around place)) ((spell (stretch_around place)).places - 1)
              (spell' (stretch_around place)).places
              (counted_less same_place place_is place_same (is_crowded count (stretch_around place))
              (is_crowded count' (stretch_around place)) (spell (stretch_around place)).places place
              (st.places (stretch_around place))
              (crowd_here has' count' spell' put others_at past_at count ∙ ap (nat_le 2) c)
              (λ p. crowd_step has' count' spell' put others_at past_at (count place - 1) now p
              ∙ ap (λ n. cond (same_place place p) (nat_le 2 (n - 1)) (is_crowded count (stretch_around place) p))
              c))
              (sym (less_at ∙ ap (λ b. (spell (stretch_around place)).places - cond b 1 0) two)) (λ p. refl))
              (λ other. places_here has' count' spell' put others_at past_at (count place - 1) _ now less_at
              (not_two (count place) other) (ap (λ b. (spell (stretch_around place)).places - cond b 1 0) other
              ∙ (omega arith)))
              (cases_Bool (nat_eq (count place) 2))
            where
              not_two : (n : ℕ) → nat_eq n 2 ≡ false → nat_le 2 (n - 1) ≡ nat_le 2 n
              not_two n h = grind (arith, nat_tests)
