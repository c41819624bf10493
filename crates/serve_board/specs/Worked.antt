-- What the calls in `src/worked.rt` publish: a toll of day 100, and the begin of day 101; and what a reader beside a writer
-- is answered.
use Rattle.std.specs.Prelude.{◌≡◌, ℕ, zero, suc, ◌+◌, ◌*◌, ◌%◌, ◌/◌, ◌^◌, List, [], ◌∷◌, ◌++◌}
use Rattle.day_floor.specs.Operations.{Operation, Begin, Step}
use Rattle.serve_board.specs.declared.live.Live.{Live}

-- day 100 began, and a toll of 2 that vehicle 100 owes was charged up to mark 54
abbrev pub one_toll : List Operation
one_toll = Begin 100 ∷ Step (record { vid = 100; xway = 0; toll = 2 } ∷ []) 54 ∷ []

-- then day 101 began
abbrev pub with_earlier_toll : List Operation
with_earlier_toll = Begin 100 ∷ Step (record { vid = 100; xway = 0; toll = 2 } ∷ []) 54 ∷ Begin 101 ∷ []

-- day 101 began after day 100, on which nothing was charged
abbrev pub without_toll : List Operation
without_toll = Begin 100 ∷ Begin 101 ∷ []

-- day 100 began, and at each mark up to so many vehicle 100 was charged as much as the mark
abbrev pub marks_to : ℕ → List Operation
marks_to zero = Begin 100 ∷ []
marks_to (suc n) = marks_to n ++ Step (record { vid = 100; xway = 0; toll = suc n } ∷ []) (suc n) ∷ []

-- an answer is the sum of all marks up to its own, in 64 bits
abbrev pub IsSumOfMarks : Live → Type 0
IsSumOfMarks live = live.amount ≡ ((live.as_of * ((live.as_of + 1) % 2 ^ 64)) % 2 ^ 64) / 2
