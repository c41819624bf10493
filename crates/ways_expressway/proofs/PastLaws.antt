-- what is kept of the minutes before tells their cars and averages, and stays while notes of the current minute come
use Rattle.std.proofs.Common.{◌≡◌, ◌-◌, ◌+◌, ◌≤◌, ◌<◌, ℕ, Bool, true, false, cond, List, Some, refl, ap, ◌∙◌, arith}
use Rattle.std.specs.Map.{lookup}
use Rattle.road_time.specs.declared.road.Stretch.{Stretch}
use Rattle.road_time.specs.Tuples.{same_stretch}
use Rattle.road_time.specs.Notes.{Note, cars}
use Rattle.road_time.specs.Lav.{CarFlow, lav, lav_of}
use Rattle.road_time.proofs.SameLaws.{stretch_is}
use Rattle.road_time.proofs.PrefixLaws.{five_same}
use Rattle.ways_expressway.specs.KeptSpeeds.{KeptSpeeds}
use Rattle.ways_expressway.specs.declared.window.Ring.{Ring}
use Rattle.ways_expressway.specs.Parts.{shown_flow, flow_of, flow_in, ring_flow}
use Rattle.ways_expressway.specs.Past.{cars_in, lav_in}
use Rattle.ways_expressway.specs.SpeedsStand.{StandsFor}

-- the cars are those of the notes
pub cars_in_is : (s : KeptSpeeds) (notes : List Note) → StandsFor s notes → (k : Stretch) →
    cars_in s k ≡ cars notes (s.minute - 1) k
cars_in_is s notes st k = ap (λ (f : CarFlow). f.cars) (st.flows k (s.minute - 1) (omega (arith, st.first)))

-- so is the average
pub lav_in_is : (s : KeptSpeeds) (notes : List Note) → StandsFor s notes → (k : Stretch) →
    lav_in s k ≡ lav notes s.minute k
lav_in_is s notes st k =
    ap lav_of
    (five_same (st.flows k (s.minute - 5) (omega (arith, st.first)))
    (st.flows k (s.minute - 4) (omega (arith, st.first))) (st.flows k (s.minute - 3) (omega (arith, st.first)))
    (st.flows k (s.minute - 2) (omega (arith, st.first))) (st.flows k (s.minute - 1) (omega (arith, st.first))))

-- a ring put among them that keeps the flow of a minute keeps it for all
pub past_put : (rings after : List (Stretch × Ring)) (stretch : Stretch) (ring : Ring) (m : ℕ)
    → ((k : Stretch) → lookup (same_stretch k) after ≡ cond (same_stretch stretch k) (Some ring)
    (lookup (same_stretch k) rings))
    → ring_flow ring m ≡ flow_in rings stretch m → (k : Stretch) → flow_in after k m ≡ flow_in rings k m
past_put rings after stretch ring m put same k = ap (λ o. flow_of o m) (put k) ∙ by (same_stretch stretch k) refl
  where
    by : (b : Bool) → same_stretch stretch k ≡ b →
        flow_of (cond b (Some ring) (lookup (same_stretch k) rings)) m ≡ flow_in rings k m
    by true e = same ∙ ap (λ s. flow_in rings s m) (stretch_is stretch k e)
    by false e = refl

module _ (s t : KeptSpeeds) (first : 1 ≤ s.minute) (minute : t.minute ≡ s.minute)
    (past : (k : Stretch) (m : ℕ) → m < s.minute → s.minute < m + 6 → flow_in t.rings k m ≡ flow_in s.rings k m) where
  at : (k : Stretch) (d : ℕ) → 1 ≤ d → d ≤ 5 → flow_in t.rings k (t.minute - d) ≡ flow_in s.rings k (s.minute - d)
  at k d one five = ap (λ n. flow_in t.rings k (n - d)) minute
      ∙ past k (s.minute - d) (omega (arith, first, one)) (omega (arith, first, five))

  -- where the minutes before stay as they are, so do the cars
  pub cars_in_same : (k : Stretch) → cars_in t k ≡ cars_in s k
  cars_in_same k = ap (λ f. f.cars) (at k 1 (omega arith) (omega arith))

  -- and the average
  pub lav_in_same : (k : Stretch) → lav_in t k ≡ lav_in s k
  lav_in_same k =
      ap lav_of
      (five_same (ap shown_flow (at k 5 (omega arith) (omega arith)))
      (ap shown_flow (at k 4 (omega arith) (omega arith)))
      (ap shown_flow (at k 3 (omega arith) (omega arith)))
      (ap shown_flow (at k 2 (omega arith) (omega arith))) (ap shown_flow (at k 1 (omega arith) (omega arith))))
