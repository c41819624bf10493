-- One-to-one codes of charges and operations, which values that threads share must have.
use Rattle.std.specs.Prelude.{◌≡◌, ◌⊎◌, ℕ, List, refl}
use Rattle.std.specs.Coded.{Coded, code_by, coded×, coded⊎, coded_ℕ, coded_list}
use Rattle.std.proofs.Common.{inl, inr}
use Rattle.road_time.specs.Day.{ChargedToll}
use Rattle.day_floor.specs.Operations.{Operation, Begin, Step, Posted}

-- a charge is stored as its parts
abbrev pub charge_code : Coded ChargedToll
charge_code = code_by (ℕ × (ℕ × ℕ)) (coded× coded_ℕ (coded× coded_ℕ coded_ℕ)) (λ c. (c.vid, (c.xway, c.toll)))
    (λ p. record { vid = p.0; xway = p.1.0; toll = p.1.1 }) (λ _. refl)

-- what an operation is: a day, or charges and a mark
abbrev split : Operation → ℕ ⊎ (List ChargedToll × ℕ)
split (Begin number) = inl number
split (Step charges mark) = inr (charges, mark)

-- the operation that a day is, or charges and a mark
abbrev joined : ℕ ⊎ (List ChargedToll × ℕ) → Operation
joined (inl number) = Begin number
joined (inr step) = Step step.0 step.1

-- an operation is what it is made of again
pub joined_split : (o : Operation) → joined (split o) ≡ o
joined_split (Begin number) = refl
joined_split (Step charges mark) = refl

-- an operation is stored as a day, or as charges and a mark
abbrev pub operation_code : Coded Operation
operation_code =
    code_by (ℕ ⊎ (List ChargedToll × ℕ)) (coded⊎ coded_ℕ (coded× (coded_list charge_code) coded_ℕ)) split joined
    joined_split

-- lists of operations
abbrev pub operations_code : Coded (List Operation)
operations_code = coded_list operation_code

-- what is published and queued is stored as its two lists
abbrev pub posted_code : Coded Posted
posted_code = code_by (List Operation × List Operation) (coded× operations_code operations_code)
    (λ p. (p.published, p.queued)) (λ p. record { published = p.0; queued = p.1 }) (λ _. refl)
