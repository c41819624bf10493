-- What a link gives behind bytes that came before.
use Rattle.std.specs.Prelude.{ℕ, List, drop, Option}
use Rattle.std.specs.Io.KnownBytes.{prepend_known}

-- the bytes of a front from a place on, and then those that a link has left, where it tells that
abbrev pub left_behind : List ℕ → ℕ → Option (List ℕ) → Option (List ℕ)
left_behind front at left = prepend_known (drop at front) left
