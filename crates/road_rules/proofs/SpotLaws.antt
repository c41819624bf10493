-- what was found of spots
use Rattle.std.proofs.Common.{◌≡◌, ℕ, ◌==◌, Bool, true, false, cond, List, refl, sym, ap, ◌∙◌, Option, Some}
use Rattle.std.proofs.lemmas.Bool.{and_parts, eqb-true}
use Rattle.road_time.specs.declared.road.Report.{Report}
use Rattle.road_time.specs.declared.road.Stretch.{Stretch}
use Rattle.road_time.specs.Tuples.{same_stretch}
use Rattle.road_time.specs.Rates.{Tariffs}
use Rattle.road_time.proofs.SameLaws.{stretch_is}
use Rattle.road_time.proofs.EachLaws.{some_is}
use Rattle.road_rules.specs.declared.spots.Spot.{Spot}
use Rattle.road_rules.specs.declared.found.SpotFound.{SpotFound}
use Rattle.road_rules.specs.Gathered.{same_spot}
use Rattle.road_rules.specs.Findings.{finding_on, shown_found}

spot_made : {m m' : ℕ} {k k' : Stretch} → m ≡ m' → k ≡ k' →
    ◌≡◌ {A = Spot} (record { minute = m; stretch = k }) (record { minute = m'; stretch = k' })
spot_made p q = rw (p, q) refl

-- spots that test as the same are equal
pub spot_is : (a b : Spot) → same_spot a b ≡ true → a ≡ b
spot_is a b h =
    let p = and_parts (a.minute == b.minute) (same_stretch a.stretch b.stretch) h in
    spot_made (eqb-true a.minute b.minute p.0) (stretch_is a.stretch b.stretch p.1)

-- one spot more
pub known_more : (rs : List Report) (tariffs : Tariffs) (before after : Spot → Option SpotFound) (s : Spot)
    (f : SpotFound) →
    ((t : Spot) (g : SpotFound) → before t ≡ Some g → shown_found g ≡ finding_on rs tariffs t.minute t.stretch) →
    ((t : Spot) → after t ≡ cond (same_spot s t) (Some f) (before t)) →
    shown_found f ≡ finding_on rs tariffs s.minute s.stretch →
    (t : Spot) (g : SpotFound) → after t ≡ Some g → shown_found g ≡ finding_on rs tariffs t.minute t.stretch
known_more rs tariffs before after s f known now exact t g e = step (same_spot s t) refl (sym (now t) ∙ e)
  where
    step : (b : Bool) → same_spot s t ≡ b → cond b (Some f) (before t) ≡ Some g →
        shown_found g ≡ finding_on rs tariffs t.minute t.stretch
    step true same h = ap shown_found (sym (some_is f g h)) ∙ exact
        ∙ ap (λ x. finding_on rs tariffs x.minute x.stretch) (spot_is s t same)
    step false same h = known t g h
