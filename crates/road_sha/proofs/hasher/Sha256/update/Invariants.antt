use Rattle.std.proofs.Common.{ℕ, List, ◌≤◌, ◌-◌, ◌++◌, length, take}
use Rattle.road_sha.specs.Hashers.{Holds}
use Rattle.road_sha.proofs.hasher.Sha256.update.Given as goal

abbrev pub invariant-groups : goal.invariant-groups
invariant-groups l = (l.from ≤ length l.bytes) × ((m : List ℕ) → Holds l.fn.self m → Holds l.self (m ++ take l.from l.bytes))

abbrev pub decreases-groups : goal.decreases-groups
decreases-groups l = length l.bytes - l.from
