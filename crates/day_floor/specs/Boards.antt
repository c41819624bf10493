-- What a board shows of the operations that were published: the day that began last, and its accounts up to a mark.
use Rattle.std.specs.Prelude.{◌≡◌, ℕ, ◌≤◌, ◌<◌, ◌^◌, List, [], ◌∷◌, ◌++◌, length, Option, Some, None}
use Rattle.std.specs.List.{fold}
use Rattle.road_time.specs.declared.road.Tuple.{Tuple}
use Rattle.road_time.specs.Rates.{Tariffs}
use Rattle.road_time.specs.Day.{ChargedToll, rules, charges_between, sum_of, charges_to}
use Rattle.day_floor.specs.Operations.{Operation, Begin, Step, Posted, posted_with}

-- the day that began last, the mark of its last step, and the charges of its steps
pub record BoardState : Type 0 where
  pub number : ℕ
  pub mark : ℕ
  pub charged : List ChargedToll

-- a board on which nothing was published
abbrev pub blank : BoardState
blank = record { number = 0; mark = 0; charged = [] }

-- a board after one operation more
abbrev pub board_with : BoardState → Operation → BoardState
board_with b (Begin number) = record { number = number; mark = 0; charged = [] }
board_with b (Step charges mark) = record { number = b.number; mark = mark; charged = b.charged ++ charges }

-- the board after some operations
abbrev pub board_after : List Operation → BoardState
board_after ops = fold board_with blank ops

-- a vehicle's account on a board
abbrev pub account : BoardState → ℕ → ℕ
account b vid = sum_of (charges_to vid b.charged)

-- what all vehicles owe on a board
abbrev pub all_accounts : BoardState → ℕ
all_accounts b = sum_of b.charged

-- steps of a day from a mark on: the marks rise, none above its length, and each step has the charges from mark to mark
abbrev pub AreSteps : List Tuple → Tariffs → ℕ → List Operation → Type 0
AreSteps day tariffs mark [] = Unit {0}
AreSteps day tariffs mark (Begin number ∷ ops) = ⊥
AreSteps day tariffs mark (Step charges next ∷ ops) =
    (mark < next) × (next ≤ length day) × (charges ≡ charges_between (rules day tariffs) day mark next)
    × AreSteps day tariffs next ops

-- the operations end with the begin of a day and its steps
pub record IsLive (day : List Tuple) (tariffs : Tariffs) (number : ℕ) (ops : List Operation) : Type 0 where
  pub earlier : List Operation
  pub steps : List Operation
  pub whole : ops ≡ earlier ++ Begin number ∷ steps
  pub exact : AreSteps day tariffs 0 steps

-- with one operation more, what all vehicles owe on the board fits 63 bits
abbrev pub FitsBoard : Operation → Option Posted → Type 0
FitsBoard o None = Unit {0}
FitsBoard o (Some p) = all_accounts (board_after (posted_with o p).published) < 2 ^ 63
