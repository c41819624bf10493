-- The numbered places for jobs that are out: which are taken, and what lies in them.
use Rattle.std.specs.Prelude.{◌≡◌, ℕ, ◌+◌, ◌<◌, List, [], ◌∷◌, Option, Some, None, slice_get, slice_set}
use Rattle.ways_expressway.specs.declared.job.Job.{Job}

-- the numbers of the places that are taken, from a number on
abbrev pub out_from : {X : Type 0} → ℕ → List (Option X) → List ℕ
out_from n [] = []
out_from n (None ∷ places) = out_from (n + 1) places
out_from n (Some entry ∷ places) = n ∷ out_from (n + 1) places

-- the numbers of the places that are taken
abbrev pub out_of : {X : Type 0} → List (Option X) → List ℕ
out_of places = out_from 0 places

-- an entry was put into a place, which was free
pub record IsPut {X : Type 0} (n : ℕ) (entry : X) (was now : List (Option X)) : Type 0 where
  pub small : n < 64
  pub free : slice_get was n ≡ Some None
  pub is : now ≡ slice_set was n (Some entry)

-- an entry was taken out of its place
pub record IsTaken {X : Type 0} (n : ℕ) (entry : X) (was now : List (Option X)) : Type 0 where
  pub small : n < 64
  pub there : slice_get was n ≡ Some (Some entry)
  pub is : now ≡ slice_set was n None

-- a place has an entry that is of the job
abbrev pub HasAt : {X : Type 0} → (X → Job → Type 0) → List (Option X) → ℕ → Job → Type 0
HasAt {X} fits places n job = (entry : X) × (slice_get places n ≡ Some (Some entry)) × fits entry job

-- each entry of a place is so
abbrev pub EachAt : {X : Type 0} → (X → Type 0) → List (Option X) → ℕ → Type 0
EachAt {X} P places n = (entry : X) → slice_get places n ≡ Some (Some entry) → P entry
