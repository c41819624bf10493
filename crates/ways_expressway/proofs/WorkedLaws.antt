-- the averages of the worked notes
use Rattle.std.proofs.Common.{◌≡◌, ℕ, ◌-◌, List, [], ◌∷◌, ◌++◌, ◌∙◌, ap, Option, Some, None}
use Rattle.road_time.specs.declared.road.Stretch.{Stretch}
use Rattle.road_time.specs.declared.road.Frac.{Frac}
use Rattle.road_time.specs.Notes.{Note, cars}
use Rattle.road_time.specs.Lav.{lav}
use Rattle.ways_expressway.specs.declared.worked.VehiclesSeen.{VehiclesSeen}

-- the worked stretch
abbrev pub here : Stretch
here = record { xway = 0; dir = 0; seg = 10 }

-- a note of it
abbrev pub note : ℕ → ℕ → ℕ → Note
note minute vid spd = record { minute = minute; stretch = here; vid = vid; spd = spd }

-- three speeds of two vehicles
abbrev pub three : ℕ → ℕ → ℕ → List Note
three a b c = (([] ++ note a 1 10 ∷ []) ++ note b 1 20 ∷ []) ++ note c 2 90 ∷ []

-- the minute after sees both vehicles
pub two_cars : (a b c m : ℕ) → a ≡ 1 → b ≡ 1 → c ≡ 1 → m ≡ 2 → cars (three a b c) (m - 1) here ≡ 2
two_cars a b c m p q r s =
    ap (λ x. cars (three x b c) (m - 1) here) p
    ∙ (ap (λ x. cars (three 1 x c) (m - 1) here) q
    ∙ (ap (λ x. cars (three 1 1 x) (m - 1) here) r ∙ ap (λ x. cars (three 1 1 1) (x - 1) here) s))

-- and the mean of their means
pub mean_of_means : (a b c m : ℕ) → a ≡ 1 → b ≡ 1 → c ≡ 1 → m ≡ 2 →
    lav (three a b c) m here ≡ Some (record { num = 1260; den = 24 })
mean_of_means a b c m p q r s =
    ap (λ x. lav (three x b c) m here) p
    ∙ (ap (λ x. lav (three 1 x c) m here) q
    ∙ (ap (λ x. lav (three 1 1 x) m here) r ∙ ap (λ x. lav (three 1 1 1) x here) s))

-- six minutes later no car is seen
pub no_cars : (a b c m : ℕ) → a ≡ 1 → b ≡ 1 → c ≡ 1 → m ≡ 7 → cars (three a b c) (m - 1) here ≡ 0
no_cars a b c m p q r s =
    ap (λ x. cars (three x b c) (m - 1) here) p
    ∙ (ap (λ x. cars (three 1 x c) (m - 1) here) q
    ∙ (ap (λ x. cars (three 1 1 x) (m - 1) here) r ∙ ap (λ x. cars (three 1 1 1) (x - 1) here) s))

-- and there is no average
pub no_mean : (a b c m : ℕ) → a ≡ 1 → b ≡ 1 → c ≡ 1 → m ≡ 7 → lav (three a b c) m here ≡ None
no_mean a b c m p q r s =
    ap (λ x. lav (three x b c) m here) p
    ∙ (ap (λ x. lav (three 1 x c) m here) q
    ∙ (ap (λ x. lav (three 1 1 x) m here) r ∙ ap (λ x. lav (three 1 1 1) x here) s))

-- a speed in each of two minutes
abbrev pub two : ℕ → ℕ → List Note
two a b = ([] ++ note a 1 20 ∷ []) ++ note b 2 31 ∷ []

-- both minutes count while both are in the window
pub both_minutes : (a b m : ℕ) → a ≡ 1 → b ≡ 4 → m ≡ 6 → lav (two a b) m here ≡ Some (record { num = 612; den = 24 })
both_minutes a b m p q r = ap (λ x. lav (two x b) m here) p
    ∙ (ap (λ x. lav (two 1 x) m here) q ∙ ap (λ x. lav (two 1 4) x here) r)

-- then the second alone
pub one_minute : (a b m : ℕ) → a ≡ 1 → b ≡ 4 → m ≡ 7 → lav (two a b) m here ≡ Some (record { num = 372; den = 12 })
one_minute a b m p q r = ap (λ x. lav (two x b) m here) p
    ∙ (ap (λ x. lav (two 1 x) m here) q ∙ ap (λ x. lav (two 1 4) x here) r)

-- two answers by their parts
pub seen_made : {a x : ℕ} {b y : Option Frac} → a ≡ x → b ≡ y →
    ◌≡◌ {A = VehiclesSeen} (record { cars = a; lav = b }) (record { cars = x; lav = y })
seen_made p q = cc
