-- the history of a stretch
use Rattle.std.proofs.Common.{◌≡◌, ℕ, suc, ◌+◌, ◌-◌, ◌*◌, ◌/◌, ◌≤◌, ◌<◌, ◌==◌, ◌||◌, ◌&&◌, nat_le, nat_lt, ⊎_elim, Bool}
use Rattle.std.proofs.Common.{true, false, cond, List, refl, sym, ap, ◌∙◌, arith}
use Rattle.std.proofs.lemmas.Bool.{cases_Bool, cases_lt, cases_eq, le-leb, lt-leb, leb-true, leb-false, eqb-true}
use Rattle.std.proofs.lemmas.Bool.{eqb-false, or_cases, and_parts, and_cases}
use Rattle.road_time.specs.declared.road.Stretch.{Stretch}
use Rattle.road_time.specs.Stops.{Stop, has_accident, stood}
use Rattle.road_time.proofs.StoodLaws.{stood_at, stood_never, stood_zero}
use Rattle.ways_expressway.specs.declared.spell.Spell.{Spell}
use Rattle.ways_expressway.specs.History.{IsHistory, is_marked, stood_earlier, stood_lately, stood_last}
use Rattle.ways_expressway.proofs.Counts.{split_or}

-- only the seconds before count
pub history_same : (second : ℕ) (s : Spell) (f g : ℕ → Bool) → ((t : ℕ) → t < second → f t ≡ g t) → IsHistory second s f
    → IsHistory second s g
history_same second s f g same h = record {
  begun = h.begun;
  ever_since = λ p t a b. sym (same t b) ∙ h.ever_since p t a b;
  marked = λ m one near e. let w = h.marked m one near e in (w.0, w.1, w.2, w.3, sym (same w.0 w.3) ∙ w.4);
  unmarked = λ m one near e t a b c d. sym (same t c) ∙ h.unmarked m one near e t a b c d;
}

-- nothing stands, where a second is not since then
none_now : (s : Spell) (second t : ℕ) → (1 ≤ s.places → s.since ≤ second) → second ≤ t → (1 ≤ s.places → t < s.since) →
    s.places < 1
none_now s second t b ge d = ⊎_elim (λ lt. lt) (λ p. let x = b p in let y = d p in absurd (omega (arith, x, y, ge)))
    (cases_lt s.places 1)

-- at a later second, where what stands stood in between
pub history_later : (second later : ℕ) (s : Spell) (f : ℕ → Bool) → second ≤ later →
    ((t : ℕ) → second ≤ t → f t ≡ nat_le 1 s.places) → IsHistory second s f → IsHistory later s f
history_later second later s f le now h = record {
  begun = λ p. let b = h.begun p in omega (arith, b);
  ever_since = λ p t a b. ⊎_elim (λ lt. h.ever_since p t a lt) (λ ge. now t ge ∙ le-leb 1 s.places p)
      (cases_lt t second);
  marked = λ m one near e. let w = h.marked m one (sooner m near) e in let c = w.3 in
      (w.0, w.1, w.2, omega (arith, c), w.4);
  unmarked = λ m one near e t a b c d.
      ⊎_elim (λ lt. h.unmarked m one (sooner m near) e t a b lt d)
      (λ ge. now t ge ∙ lt-leb 1 s.places (none_now s second t h.begun ge d)) (cases_lt t second);
}
  where
    sooner : (m : ℕ) → later / 60 ≤ m → second / 60 ≤ m
    sooner m near = omega arith

-- another number of places with an accident, where one stood and stands
pub history_stands : (second : ℕ) (s : Spell) (n : ℕ) (f : ℕ → Bool) → 1 ≤ s.places → 1 ≤ n → IsHistory second s f →
    IsHistory second (record { places = n; since = s.since; last = s.last; before = s.before }) f
history_stands second s n f one more h = record {
  begun = λ p. h.begun one;
  ever_since = λ p. h.ever_since one;
  marked = h.marked;
  unmarked = λ m first near e t a b c d. h.unmarked m first near e t a b c (λ p. d more);
}

-- the first place with an accident
pub history_begins : (second : ℕ) (s : Spell) (n : ℕ) (f : ℕ → Bool) → s.places ≡ 0 → IsHistory second s f →
    IsHistory second (record { places = n; since = second; last = s.last; before = s.before }) f
history_begins second s n f zero h = record {
  begun = λ p. omega arith;
  ever_since = λ p t a b. absurd (omega arith);
  marked = h.marked;
  unmarked = λ m first near e t a b c d. h.unmarked m first near e t a b c (λ p. absurd (omega arith));
}

-- a minute that is marked
picked : (b : Bool) (x m : ℕ) → 1 ≤ m → (cond b x 0 == m) ≡ true → (b ≡ true) × (x ≡ m)
picked true x m one h = (refl, eqb-true x m h)
picked false x m one h = let e = eqb-true 0 m h in absurd (omega (arith, e))

-- a minute that is not marked
unpicked : (b : Bool) (x m : ℕ) → x ≡ m → (cond b x 0 == m) ≡ false → b ≡ false
unpicked true x m e h = absurd (eqb-false x m h e)
unpicked false x m e h = refl

-- a second of the minute, before this one, at which an accident stood
Found : (second : ℕ) (f : ℕ → Bool) (m : ℕ) → Type 0
Found second f m = (t : ℕ) × (60 * (m - 1) ≤ t) × (t < 60 * (m - 1) + 60) × (t < second) × (f t ≡ true)

module _ (second : ℕ) (s : Spell) (f : ℕ → Bool) (one : 1 ≤ s.places) (h : IsHistory second s f) where
  -- a second of the minute before at which one stood
  earlier_found : (m : ℕ) → 1 ≤ m → second / 60 ≡ m → stood_earlier second s ≡ true → Found second f m
  unfolding Found
  earlier_found m first e g =
      ⊎_elim
      (λ lt. let l = leb-true (suc s.since) (60 * (second / 60)) lt in (
        60 * (second / 60) - 1,
        omega arith,
        omega arith,
        omega arith,
        h.ever_since one (60 * (second / 60) - 1)
            (omega (arith, l)) (omega arith),
      ))
      (λ k. h.marked m first (omega arith) (ap (is_marked s) (sym e) ∙ k))
      (or_cases (nat_lt s.since (60 * (second / 60))) (is_marked s (second / 60)) g)

  -- a second of this minute at which one stood
  lately_found : (m : ℕ) → 1 ≤ m → second / 60 + 1 ≡ m → stood_lately second s ≡ true → Found second f m
  unfolding Found
  lately_found m first e g =
      ⊎_elim
      (λ lt. let p = and_parts (nat_lt s.since second) (nat_lt (60 * (second / 60)) second) lt in
      let l = leb-true (suc s.since) second p.0 in
      let k = leb-true (suc (60 * (second / 60))) second p.1 in (
        second - 1,
        omega (arith, l, k),
        omega (arith, l, k),
        omega (arith, l, k),
        h.ever_since one (second - 1)
            (omega (arith, l)) (omega (arith, l)),
      ))
      (λ k. h.marked m first (omega arith) (ap (is_marked s) (sym e) ∙ k))
      (or_cases (nat_lt s.since second && nat_lt (60 * (second / 60)) second) (is_marked s (second / 60 + 1)) g)

  -- none in the minute before
  earlier_not : (m : ℕ) → 1 ≤ m → second / 60 ≡ m → stood_earlier second s ≡ false → (t : ℕ) → 60 * (m - 1) ≤ t →
      t < 60 * (m - 1) + 60 → t < second → f t ≡ false
  earlier_not m first e g t a b c =
      let p = split_or (nat_lt s.since (60 * (second / 60))) (is_marked s (second / 60)) g in
      let l = leb-false (suc s.since) (60 * (second / 60)) p.0 in
      h.unmarked m first (omega arith) (ap (is_marked s) (sym e) ∙ p.1) t a b c (λ _. omega (arith, l))

  -- none in this minute
  lately_not : (m : ℕ) → 1 ≤ m → second / 60 + 1 ≡ m → stood_lately second s ≡ false → (t : ℕ) → 60 * (m - 1) ≤ t →
      t < 60 * (m - 1) + 60 → t < second → f t ≡ false
  lately_not m first e g t a b c =
      let p = split_or (nat_lt s.since second && nat_lt (60 * (second / 60)) second) (is_marked s (second / 60 + 1))
      g in
      h.unmarked m first (omega arith) (ap (is_marked s) (sym e) ∙ p.1) t a b c
      (λ _. ⊎_elim (λ k. let l = leb-false (suc s.since) second k in omega (arith, l))
      (λ k. let l = leb-false (suc (60 * (second / 60))) second k in absurd (omega (arith, l)))
      (and_cases (nat_lt s.since second) (nat_lt (60 * (second / 60)) second) p.0))

  -- the last accident ends
  pub history_ends : (early lately : Bool) → early ≡ stood_earlier second s → lately ≡ stood_lately second s →
      IsHistory second
      (record {
        places = 0;
        since = 0;
        last = cond lately (second / 60 + 1) 0;
        before =
            cond early (second / 60) 0;
      }) f
  unfolding Found
  history_ends early lately e l = record {
    begun = λ p. absurd (omega arith);
    ever_since = λ p t a b. absurd (omega arith);
    marked = λ m first near g.
        ⊎_elim
        (λ k. let p = picked lately (second / 60 + 1) m first k in lately_found m first p.1 (sym l ∙ p.0))
        (λ k. let p = picked early (second / 60) m first k in earlier_found m first p.1 (sym e ∙ p.0))
        (or_cases (cond lately (second / 60 + 1) 0 == m) (cond early (second / 60) 0 == m) g);
    unmarked = λ m first near g t a b c d.
        let p = split_or (cond lately (second / 60 + 1) 0 == m) (cond early (second / 60) 0 == m) g in
        ⊎_elim
        (λ k. earlier_not m first k (sym e ∙ unpicked early (second / 60) m k p.1) t a b c)
        (λ ne. let k : second / 60 + 1 ≡ m = omega (arith, ne) in
        lately_not m first k (sym l ∙ unpicked lately (second / 60 + 1) m k p.0) t a b c)
        (cases_eq (second / 60) m);
  }

-- the same, where the marks are named
pub history_ended : (second : ℕ) (s : Spell) (f : ℕ → Bool) (last before : ℕ) (early lately : Bool) → 1 ≤ s.places →
    IsHistory second s f → early ≡ stood_earlier second s → lately ≡ stood_lately second s →
    last ≡ cond lately (second / 60 + 1) 0 → before ≡ cond early (second / 60) 0 →
    IsHistory second (record { places = 0; since = 0; last = last; before = before }) f
history_ended second s f last before early lately one h e l x y =
    rw (x, y) (history_ends second s f one h early lately e l)

module _ (stops_at : ℕ → List Stop) (k : Stretch) (second : ℕ) (s : Spell)
    (h : IsHistory second s (λ t. has_accident (stops_at t) k)) where
  -- an accident stood in the minute before
  stood_yes : (m : ℕ) → second / 60 ≡ m → 1 ≤ m →
      (nat_le 1 s.places && nat_lt s.since (60 * (second / 60)) || is_marked s (second / 60)) ≡ true →
      stood stops_at m k ≡ true
  stood_yes m e first g =
      ⊎_elim
      (λ b. let p = and_parts (nat_le 1 s.places) (nat_lt s.since (60 * (second / 60))) b in
      let one = leb-true 1 s.places p.0 in
      let l = leb-true (suc s.since) (60 * (second / 60)) p.1 in
      stood_at stops_at m k (60 * (second / 60) - 1) first (omega arith) (omega arith)
      (h.ever_since one (60 * (second / 60) - 1) (omega (arith, l)) (omega arith)))
      (λ b. let w = h.marked m first (omega arith) (ap (is_marked s) (sym e) ∙ b) in
      stood_at stops_at m k w.0 first w.1 w.2 w.4)
      (or_cases (nat_le 1 s.places && nat_lt s.since (60 * (second / 60))) (is_marked s (second / 60)) g)

  -- no accident stood in the minute before
  stood_no : (m : ℕ) → second / 60 ≡ m → 1 ≤ m →
      (nat_le 1 s.places && nat_lt s.since (60 * (second / 60)) || is_marked s (second / 60)) ≡ false →
      stood stops_at m k ≡ false
  stood_no m e first g =
      let p = split_or (nat_le 1 s.places && nat_lt s.since (60 * (second / 60))) (is_marked s (second / 60)) g in
      stood_never stops_at m k first
      (λ t a b. h.unmarked m first (omega arith) (ap (is_marked s) (sym e) ∙ p.1) t a b (omega arith)
      (λ one. ⊎_elim (λ x. let l = leb-false 1 s.places x in absurd (omega (arith, l)))
      (λ x. let l = leb-false (suc s.since) (60 * (second / 60)) x in omega (arith, l))
      (and_cases (nat_le 1 s.places) (nat_lt s.since (60 * (second / 60))) p.0)))

  -- what is kept tells whether one stood in the minute before
  pub stood_last_is : stood_last second s ≡ stood stops_at (second / 60) k
  stood_last_is =
      ⊎_elim
      (λ z. ap (λ b. b && (nat_le 1 s.places && nat_lt s.since (60 * (second / 60)) || is_marked s (second / 60)))
      (lt-leb 1 (second / 60) (omega arith)) ∙ sym (ap (λ m. stood stops_at m k) z ∙ stood_zero stops_at k))
      (λ nz. let first : 1 ≤ second / 60 = omega (arith, nz) in
      ap (λ b. b && (nat_le 1 s.places && nat_lt s.since (60 * (second / 60)) || is_marked s (second / 60)))
      (le-leb 1 (second / 60) first)
      ∙ ⊎_elim (λ b. b ∙ sym (stood_yes (second / 60) refl first b))
      (λ b. b ∙ sym (stood_no (second / 60) refl first b))
      (cases_Bool (nat_le 1 s.places && nat_lt s.since (60 * (second / 60)) || is_marked s (second / 60))))
      (cases_eq (second / 60) 0)
