-- What becomes of connections whose time for a head is over.
use Rattle.std.specs.Prelude.{◌≡◌, ◌<◌, ◌-◌, ℕ, Bool, false, not, ◌&&◌, nat_le, List, length, get_or}
use Rattle.std.specs.Prelude.{if◌then◌else◌, Option, Some, None}
use Rattle.std.specs.Time.{instant_nanos}
use Rattle.std.specs.declared.time.Instant.{Instant}
use Rattle.serve_room.specs.declared.seat.Seat.{Seat}
use Rattle.serve_room.specs.Times.{head_time}

-- a connection waits for its head at a moment, and its time for that is over
abbrev pub is_late : Instant → Option Seat → Bool
is_late now None = false
is_late now (Some seat) = not seat.called && nat_le head_time (instant_nanos now - instant_nanos seat.since)

-- a place at a moment, which whoever is late has left
abbrev pub judged : Instant → Option Seat → Option Seat
judged now place = if is_late now place then None else place

-- whoever is late at a moment has left its place; nobody else is changed
abbrev pub AreJudged : Instant → List (Option Seat) → List (Option Seat) → Type 0
AreJudged now old new =
    (length new ≡ length old) × ((k : ℕ) → k < length old → get_or new k None ≡ judged now (get_or old k None))
