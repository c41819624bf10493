-- Some days of a list that goes by days.
use Rattle.std.specs.Prelude.{ℕ, ◌&&◌, nat_le, nat_lt, List}
use Rattle.std.specs.List.{filter}

-- what is of a day from one on and before another
abbrev pub in_span : {X : Type 0} → (X → ℕ) → ℕ → ℕ → List X → List X
in_span day from next xs = filter (λ x. nat_le from (day x) && nat_lt (day x) next) xs

-- what is of one day
abbrev pub on_day : {X : Type 0} → (X → ℕ) → ℕ → List X → List X
on_day day n xs = filter (λ x. nat_le n (day x) && nat_le (day x) n) xs
