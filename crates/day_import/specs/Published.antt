-- What is published of a day as it is settled.
use Rattle.std.specs.Prelude.{◌≡◌, ℕ, ◌+◌, ◌≤◌, ◌<◌, List, [], ◌∷◌, ◌++◌, length, take, Option}
use Rattle.std.specs.Option.{option_map}
use Rattle.road_time.specs.declared.road.Tuple.{Tuple}
use Rattle.road_time.specs.Sights.{Sight}
use Rattle.road_time.specs.Tolls.{StretchTold}
use Rattle.road_time.specs.Rates.{Tariffs}
use Rattle.road_time.specs.Day.{ChargedToll, given, rules, charges_between}
use Rattle.day_floor.specs.Operations.{Operation, Begin, Step, Posted}
use Rattle.day_floor.specs.Shares.{State}

-- steps of a day by findings, from a mark on to a last one: each goes on to a later mark, at most so many positions
-- on, and has the charges between them
abbrev pub AreStepsBy : (Sight → StretchTold) → List Tuple → ℕ → ℕ → ℕ → List Operation → Type 0
AreStepsBy finding day backlog mark last [] = mark ≡ last
AreStepsBy finding day backlog mark last (Begin number ∷ ops) = ⊥
AreStepsBy finding day backlog mark last (Step charges next ∷ ops) =
    (mark < next) × (next ≤ mark + backlog) × (charges ≡ charges_between finding day mark next)
    × AreStepsBy finding day backlog next last ops

-- what was charged between two positions of those that are settled
abbrev pub settled_between : State → ℕ → ℕ → List ChargedToll
settled_between s a b = charges_between (given s.found) (take s.settled s.fed) a b

-- what is published, with some operations more
abbrev pub posted_more : List Operation → Posted → Posted
posted_more ops p = record { published = p.published ++ ops; queued = p.queued }

-- since an earlier time a publisher has published the steps up to what is settled
pub record HasStepped (backlog : ℕ) (s : State) (old now : Option Posted) : Type 0 where
  pub steps : List Operation
  pub are : AreStepsBy (given s.found) (take s.settled s.fed) backlog 0 s.settled steps
  pub published : now ≡ option_map (posted_more steps) old

-- the operations that are published, where a publisher tells them
abbrev pub published_of : Option Posted → Option (List Operation)
published_of posted = option_map (λ p. p.published) posted

-- since an earlier time a publisher has published steps of a day by the rules, up to some mark
pub record HasSteps (tariffs : Tariffs) (day : List Tuple) (backlog : ℕ) (old now : Option Posted) : Type 0 where
  pub steps : List Operation
  pub mark : ℕ
  pub within : mark ≤ length day
  pub are : AreStepsBy (rules day tariffs) day backlog 0 mark steps
  pub published : published_of now ≡ option_map (λ p. p.published ++ steps) old
