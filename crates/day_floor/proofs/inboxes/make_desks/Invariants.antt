use Rattle.std.proofs.Common.{◌≡◌, ℕ, vec_len}
use Rattle.day_floor.specs.Shares.{idle}
use Rattle.day_floor.specs.Desks.{IsDeskAt}
use Rattle.day_floor.proofs.inboxes.make_desks.Given as goal

abbrev pub invariant-loop : goal.invariant-loop
invariant-loop l = record { len : vec_len l.desks ≡ l.counter; empty : (w : ℕ) → IsDeskAt l.desks.items w idle }
