-- What an accept fails of, and passes.
use Rattle.std.specs.Prelude.{ℤ, pos, Bool, false, List, [], ◌∷◌, Option, Some, None}
use Rattle.std.specs.List.{list_any}
use Rattle.std.specs.Ordering.{int_eq}

-- Linux's numbers of the faults of accept after which it has programs try again: the client is gone or was forbidden (1,
-- 103, 104, 110), no memory or no file handle is left for now (11, 12, 23, 24, 105), the network fails (64, 71, 92, 95,
-- 100, 101, 112, 113)
abbrev pub passing : List ℤ
passing =
    pos 1 ∷ pos 11 ∷ pos 12 ∷ pos 23 ∷ pos 24 ∷ pos 64 ∷ pos 71 ∷ pos 92 ∷ pos 95 ∷ pos 100 ∷ pos 101 ∷ pos 103 ∷ pos 104
    ∷ pos 105 ∷ pos 110 ∷ pos 112 ∷ pos 113 ∷ []

-- a fault of this number passes; one without a number does not
abbrev pub is_passing : Option ℤ → Bool
is_passing None = false
is_passing (Some number) = list_any (λ each. int_eq each number) passing
