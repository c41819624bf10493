-- an accident in a stretch and a minute, by the halts about them
use Rattle.std.proofs.Common.{◌≡◌, ℕ, ◌+◌, ◌≤◌, ◌<◌, ◌==◌, ◌&&◌, nat_le, nat_lt, true, List, refl, sym, ap, ◌∙◌, arith}
use Rattle.std.proofs.Common.{Option, Some, None}
use Rattle.std.specs.List.{filter}
use Rattle.std.proofs.lemmas.Bool.{and_parts, and_from, leb-true, ltb-true, lt-ltb}
use Rattle.road_time.specs.declared.road.Stretch.{Stretch}
use Rattle.road_time.specs.declared.road.Place.{Place}
use Rattle.road_time.specs.Tuples.{same_place, stretch_around, same_stretch}
use Rattle.road_time.specs.Stops.{has_accident}
use Rattle.road_time.proofs.SameLaws.{place_is}
use Rattle.road_time.proofs.StandLaws.{accident_in, any_filter}
use Rattle.road_time.proofs.AccidentLaws.{both, any_alike}
use Rattle.road_rules.specs.declared.halts.Halt.{Halt}
use Rattle.road_rules.specs.Halts.{is_before, covers, halting, is_about}
use Rattle.road_rules.proofs.HaltLaws.{halts_at, halting_among}

before_start : (start t : ℕ) (to : Option ℕ) → start ≤ t → is_before t to ≡ true → is_before start to ≡ true
before_start start t None h e = refl
before_start start t (Some n) h e = lt-ltb start n (omega (arith, h, ltb-true t n e))

-- a halt of the stretch that covers a second of the minute is about them
about : (start t : ℕ) (k : Stretch) (v : ℕ) (p : Place) (h : Halt) → start ≤ t → t < start + 60 →
    same_stretch (stretch_around p) k ≡ true →
    (covers t h && (h.vid == v && same_place h.place p)) ≡ true → is_about start k h ≡ true
about start t k v p h low high e f =
    let one = and_parts (covers t h) (h.vid == v && same_place h.place p) f in
    let two = and_parts (nat_le h.from t) (is_before t h.to) one.0 in
    let three = and_parts (h.vid == v) (same_place h.place p) one.1 in
    and_from (same_stretch (stretch_around h.place) k) (nat_lt h.from (start + 60) && is_before start h.to)
    (ap (λ q. same_stretch (stretch_around q) k) (place_is h.place p three.1) ∙ e)
    (and_from (nat_lt h.from (start + 60)) (is_before start h.to)
    (lt-ltb h.from (start + 60) (omega (arith, leb-true h.from t two.0, high)))
    (before_start start t h.to low two.1))

module _ (hs : List Halt) (start t : ℕ) (k : Stretch) (low : start ≤ t) (high : t < start + 60) where
  halts_same : (v : ℕ) (p : Place) → same_stretch (stretch_around p) k ≡ true →
      halts_at (filter (is_about start k) hs) t v p ≡ halts_at hs t v p
  halts_same v p e =
      any_filter (λ h. covers t h && (h.vid == v && same_place h.place p)) (is_about start k) hs
      ∙ any_alike (λ h. is_about start k h && (covers t h && (h.vid == v && same_place h.place p)))
      (λ h. covers t h && (h.vid == v && same_place h.place p))
      (λ h. both (is_about start k h && (covers t h && (h.vid == v && same_place h.place p)))
      (covers t h && (h.vid == v && same_place h.place p))
      (λ g. (and_parts (is_about start k h) (covers t h && (h.vid == v && same_place h.place p)) g).1)
      (λ g. and_from (is_about start k h) (covers t h && (h.vid == v && same_place h.place p))
      (about start t k v p h low high e g) g)) hs

  -- those halts decide
  pub accident_about : has_accident (halting (filter (is_about start k) hs) t) k ≡ has_accident (halting hs t) k
  accident_about =
      accident_in (halting (filter (is_about start k) hs) t) (halting hs t) k
      (λ s e. halting_among (filter (is_about start k) hs) t s ∙ halts_same s.0 s.1 e ∙ sym (halting_among hs t s))
