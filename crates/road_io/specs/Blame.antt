-- Who is to blame for a fault.
use Rattle.std.specs.Prelude.{ℕ, ◌≡◌, ◌≤◌, Bool, Option}
use Rattle.road_io.specs.Faults.{Rose}
use Rattle.road_io.specs.Plans.{NeverFails}
use Rattle.road_io.specs.Rooms.{Room, Endless}

-- a source's or a keeper's count of faults never falls, it rose where that object failed and stands where it did not,
-- and one that plans no failing call does not fail
pub record FaultsByPlan (before now : ℕ) (plan : Option (ℕ → Bool)) (failed : Type 0) : Type 0 where
  pub later : before ≤ now
  pub cause : failed → Rose before now
  pub still : (failed → ⊥) → now ≡ before
  pub sure : NeverFails plan → failed → ⊥

-- the same of a sink, and one with endless room does not fail and keeps it
pub record FaultsByRoom (before now : ℕ) (room left : Room) (failed : Type 0) : Type 0 where
  pub later : before ≤ now
  pub cause : failed → Rose before now
  pub still : (failed → ⊥) → now ≡ before
  pub sure : room ≡ Endless → (failed → ⊥) × (left ≡ Endless)
