-- Which notes were taken, by what is kept of them, and whether one more may be.
use Rattle.std.specs.Prelude.{◌≡◌, ℕ, ◌+◌, ◌≤◌, ◌<◌, ◌==◌, ◌&&◌, List, [], ◌∷◌, ◌++◌, length, All}
use Rattle.std.specs.List.{filter}
use Rattle.road_time.specs.declared.road.Stretch.{Stretch}
use Rattle.road_time.specs.Notes.{Note, notes_at, notes_of_vehicle, vehicles_of}
use Rattle.road_time.specs.Lav.{flow_at}
use Rattle.ways_expressway.specs.KeptSpeeds.{KeptSpeeds}
use Rattle.ways_expressway.specs.Parts.{shown_flow, sum_in, sum_for, flow_in}

-- what is kept is that of the notes
pub record StandsFor (s : KeptSpeeds) (notes : List Note) : Type 0 where
  pub first : 1 ≤ s.minute
  pub none_after : All (λ n. n.minute ≤ s.minute) notes
  pub slow : All (λ n. n.spd ≤ 100) notes
  pub few : length (vehicles_of notes) ≤ 500000
  pub sums : (k : Stretch) (v : ℕ) →
      sum_in s.seen (record { stretch = k; vid = v }) ≡ sum_for (notes_of_vehicle (notes_at notes s.minute k) v)
  pub flows : (k : Stretch) (m : ℕ) → s.minute < m + 6 → shown_flow (flow_in s.rings k m) ≡ flow_at notes k m

-- one more note may come: its vehicle has at most three in its minute, and with it the notes name few vehicles
pub record CanNote (notes : List Note) (n : Note) : Type 0 where
  pub three : length (filter (λ o. o.minute == n.minute && o.vid == n.vid) notes) ≤ 3
  pub few : length (vehicles_of (notes ++ n ∷ [])) ≤ 500000
