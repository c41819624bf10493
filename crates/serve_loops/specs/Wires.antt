-- What a connection tells.
use Rattle.std.specs.Prelude.{ℕ, Bool, List, Option}
use Rattle.road_io.specs.Rooms.{Room}

-- what is left to be read of a connection and which reads to come fail, what was written and how much more it takes;
-- each where it tells that; and how many of its calls failed
pub record Wire : Type 0 where
  pub left : Option (List ℕ)
  pub plan : Option (ℕ → Bool)
  pub written : Option (List ℕ)
  pub room : Room
  pub faults : ℕ

-- a connection, by what its type tells
abbrev pub wire_by : {L : Type 0} → (L → Option (List ℕ)) → (L → Option (ℕ → Bool)) → (L → Option (List ℕ)) →
    (L → Room) → (L → ℕ) → L → Wire
wire_by left plan written room faults line =
    record { left = left line; plan = plan line; written = written line; room = room line; faults = faults line }
