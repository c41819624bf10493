-- The tariffs of the first expressways.
use Rattle.std.specs.Prelude.{ℕ, nat_lt, filter}
use Rattle.road_time.specs.Rates.{Tariffs}

-- the tariffs of the expressways below one
abbrev pub tariffs_below : ℕ → Tariffs → Tariffs
tariffs_below xway tariffs = filter (λ e. nat_lt e.0 xway) tariffs
