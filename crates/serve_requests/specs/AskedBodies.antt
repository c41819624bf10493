-- The body of a request, as a source.
use Rattle.std.specs.Prelude.{◌≡◌, ℕ, ◌<◌, ◌≤◌, Bool, true, false, List, [], ◌∷◌, ◌++◌, length, drop, zero, suc, Option}
use Rattle.std.specs.Prelude.{Some, None}
use Rattle.std.specs.Option.{option_map}
use Rattle.std.specs.Io.KnownBytes.{prepend_known}
use Rattle.serve_requests.specs.declared.body_end.BodyEnd.{BodyEnd}
use Rattle.serve_requests.specs.declared.body_end.BodyEnd.TheVariants.{Whole, Cut, LinkFault}
use Rattle.road_io.specs.Faults.{Rose}

-- the first so many of some bytes, and zeros where there are fewer: what a body that is cut stands for
abbrev pub filled : ℕ → List ℕ → List ℕ
filled zero bytes = []
filled (suc n) [] = 0 ∷ filled n []
filled (suc n) (b ∷ bytes) = b ∷ filled n bytes

-- the bytes of a body that are left: so many of those that came early and of those on the link
abbrev pub body_left : ℕ → List ℕ → Option (List ℕ) → Option (List ℕ)
body_left count early left = option_map (λ bytes. filled count (early ++ bytes)) left

-- what came early and what is left are the bytes behind so many that were read, where they are told
abbrev pub IsBehind : ℕ → Option (List ℕ) → List ℕ → Option (List ℕ) → Type 0
IsBehind count bytes early left =
    (all : List ℕ) → bytes ≡ Some all → (prepend_known early left ≡ Some (drop count all)) × (count ≤ length all)

-- whether a call to come fails, where that is told
abbrev pub fails_at : Option (ℕ → Bool) → ℕ → Bool
fails_at None n = true
fails_at (Some plan) n = plan n

-- no call to come fails
abbrev pub IsSure : Option (ℕ → Bool) → Type 0
IsSure plan = (n : ℕ) → fails_at plan n ≡ false

-- a fault is the end of the link before that of the body, or one that the link counted
abbrev pub HasCauses : ℕ → Bool → ℕ → ℕ → Option (ℕ → Bool) → Type 0
HasCauses faults cut before now plan = 0 < faults → cut ≡ false → Rose before now × (IsSure plan → ⊥)

-- where a body is cut, some of it is left and the link has no more
abbrev pub IsCutOff : Bool → ℕ → List ℕ → Option (List ℕ) → Type 0
IsCutOff cut left early known = cut ≡ true → (0 < left) × (early ≡ []) × ((all : List ℕ) → known ≡ Some all → all ≡ [])

-- how a body ended: whole, with nothing left of it; cut; or at a fault of its link
abbrev pub EndsBody : ℕ → ℕ → Bool → BodyEnd → Type 0
EndsBody left faults cut Whole = (left ≡ 0) × (faults ≡ 0) × (cut ≡ false)
EndsBody left faults cut Cut = cut ≡ true
EndsBody left faults cut LinkFault = (0 < faults) × (cut ≡ false)

-- what is left of a link after a body of so many of its bytes: the body was there, and no more was read; or the bytes
-- end before the body; or the link failed
abbrev pub LeavesBody : ℕ → List ℕ → Option (List ℕ) → BodyEnd → Type 0
LeavesBody count all left Whole = (count ≤ length all) × (left ≡ Some (drop count all))
LeavesBody count all left Cut = length all < count
LeavesBody count all left LinkFault = Unit {0}

-- the causes of such an end
abbrev pub HasEndCause : Option (ℕ → Bool) → ℕ → ℕ → BodyEnd → Type 0
HasEndCause plan before now Whole = Unit {0}
HasEndCause plan before now Cut = Unit {0}
HasEndCause plan before now LinkFault = Rose before now × (IsSure plan → ⊥)
