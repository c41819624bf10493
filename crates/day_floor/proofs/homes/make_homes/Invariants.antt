use Rattle.std.proofs.Common.{◌≡◌, ℕ, vec_len}
use Rattle.day_floor.specs.Shares.{idle}
use Rattle.day_floor.specs.Floors.{HomeAt}
use Rattle.day_floor.proofs.homes.make_homes.Given as goal

abbrev pub invariant-loop : goal.invariant-loop
invariant-loop l = record { len : vec_len l.homes ≡ l.counter; idle : (w : ℕ) → HomeAt l.tariffs l.homes.items w idle }
