-- The name of a source that is watched.
use Rattle.std.specs.Prelude.{ℕ, zero, suc, ◌+◌, ◌*◌}

-- two numbers in one
abbrev pub both : ℕ → ℕ → ℕ
both zero b = 2 * b + 1
both (suc a) b = 2 * both a b
