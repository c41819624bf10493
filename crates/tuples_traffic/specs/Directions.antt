-- Which way a vehicle goes.
use Rattle.std.specs.Prelude.{ℕ, ◌==◌, if◌then◌else◌}

-- one vehicle in four goes west
abbrev pub direction_of : ℕ → ℕ
direction_of draw = if draw == 0 then 1 else 0
