-- what is kept of the stretches tells where an accident stood in the minute before
use Rattle.std.proofs.Common.{◌≡◌, ◌+◌, ◌-◌, ◌/◌, ℕ, Bool, true, false, cond, List, Some, unwrap_or, refl, arith, ap}
use Rattle.std.proofs.Common.{◌∙◌}
use Rattle.std.specs.List.{find}
use Rattle.std.specs.Map.{lookup}
use Rattle.road_time.specs.Tuples.{same_stretch}
use Rattle.road_time.proofs.SameLaws.{stretch_is}
use Rattle.ways_expressway.specs.History.{stood_last}
use Rattle.ways_expressway.specs.declared.spell.Spell.{Spell}
use Rattle.road_time.specs.Clock.{minute_of}
use Rattle.road_time.specs.declared.road.Stretch.{Stretch}
use Rattle.road_time.specs.Stops.{stood, near, segments_ahead}
use Rattle.road_time.specs.Entries.{StopEntry, standing_at}
use Rattle.ways_expressway.specs.KeptAccidents.{KeptStops, spell_of}
use Rattle.ways_expressway.specs.Near.{stood_in, near_in}
use Rattle.ways_expressway.specs.AccidentsStand.{StandsFor}
use Rattle.ways_expressway.proofs.Spells.{stood_last_is}

-- of a stretch
pub stood_in_is : (s : KeptStops) (es : List StopEntry) → StandsFor s es → (k : Stretch) →
    stood_in s k ≡ stood (standing_at es) (minute_of s.second - 1) k
stood_in_is s es st k =
    let m : s.second / 60 ≡ s.second / 60 + 1 - 1 = omega arith in
    stood_last_is (standing_at es) k s.second (spell_of s.spells k) (st.history k)
    ∙ ap (λ x. stood (standing_at es) x k) m

-- a search goes by what its test answers
find_same : (p q : ℕ → Bool) (xs : List ℕ) → ((x : ℕ) → p x ≡ q x) → find p xs ≡ find q xs
find_same p q xs h = λ j. find (λ x. h x j) xs

-- ahead of a stretch
pub near_in_is : (s : KeptStops) (es : List StopEntry) → StandsFor s es → (k : Stretch) →
    near_in s k ≡ near (standing_at es) (minute_of s.second) k
near_in_is s es st k = find_same _ _ (segments_ahead k) (λ x. stood_in_is s es st (record k { seg = x }))

-- where each stretch stays as it is, so does what is ahead
pub near_in_same : (s t : KeptStops) → ((k : Stretch) → stood_in s k ≡ stood_in t k) → (k : Stretch) →
    near_in s k ≡ near_in t k
near_in_same s t h k = find_same _ _ (segments_ahead k) (λ x. h (record k { seg = x }))

-- nothing stood
abbrev pub none : Spell
none = record { places = 0; since = 0; last = 0; before = 0 }

-- where what is kept of one stretch says the same of the minute before, what is kept of each does
pub last_put : (second : ℕ) (spells after : List (Stretch × Spell)) (stretch : Stretch) (x : Spell)
    → ((k : Stretch) →
    lookup (same_stretch k) after ≡ cond (same_stretch stretch k) (Some x) (lookup (same_stretch k) spells))
    → stood_last second x ≡ stood_last second (spell_of spells stretch) → (k : Stretch) →
    stood_last second (spell_of after k) ≡ stood_last second (spell_of spells k)
last_put second spells after stretch x put same k = ap (λ o. stood_last second (unwrap_or o none)) (put k)
    ∙ by (same_stretch stretch k) refl
  where
    by : (b : Bool) → same_stretch stretch k ≡ b →
        stood_last second (unwrap_or (cond b (Some x) (lookup (same_stretch k) spells)) none) ≡ stood_last second
        (spell_of spells k)
    by true e = same ∙ ap (λ s. stood_last second (spell_of spells s)) (stretch_is stretch k e)
    by false e = refl
