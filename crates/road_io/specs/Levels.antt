-- What a sink takes of a text, and how its room falls.
use Rattle.std.specs.Prelude.{ℕ, ◌≡◌, ◌+◌, ◌<◌, ◌≤◌, List, length, take, Option}
use Rattle.std.specs.Io.KnownBytes.{Appends}
use Rattle.road_io.specs.Rooms.{Room, Untold, Bound, Endless, Takes}

-- what a sink has, where it tells that, and how many bytes more it takes
abbrev pub Level : Type 0
Level = Option (List ℕ) × Room

-- bytes were taken: they stand behind what was written, and the room fell by as many
abbrev pub Adds : Level → Level → List ℕ → Type 0
Adds old now bytes = Appends old.0 now.0 bytes × Takes old.1 now.1 (length bytes)

-- some first bytes of a text were taken
abbrev pub AddsFront : List ℕ → Level → Level → Type 0
AddsFront text old now = (k : ℕ) × (k ≤ length text) × Appends old.0 now.0 (take k text) × Takes old.1 now.1 k

-- all first bytes of a text were taken but fewer than a piece has, and none where the text is shorter than a piece
abbrev pub AddsPieces : List ℕ → Level → Level → Type 0
AddsPieces text old now =
    (k : ℕ) × (k ≤ length text) × (length text < k + 65536) × (length text < 65536 → k ≡ 0)
    × Appends old.0 now.0 (take k text) × Takes old.1 now.1 k

-- so many bytes filled a room, where it is told
abbrev pub Fills : Room → Room → ℕ → Type 0
Fills Untold now n = Unit {0}
Fills (Bound m) now n = (m ≡ n) × (now ≡ Bound 0)
Fills Endless now n = ⊥

-- as many first bytes of a text were taken as there was room for, and those are not all
abbrev pub FillsUp : List ℕ → Level → Level → Type 0
FillsUp text old now = (k : ℕ) × (k < length text) × Appends old.0 now.0 (take k text) × Fills old.1 now.1 k
