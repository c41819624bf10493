-- Where the bytes of a link in memory go out.
use Rattle.std.specs.Prelude.{ℕ, List, Option, Some, None}
use Rattle.road_io.specs.Rooms.{Room, Untold, Bound}
use Rattle.road_io.specs.Fakes as fakes
use Rattle.road_io.specs.declared.memory.MemSink.{MemSink}
use Rattle.road_io.specs.declared.outward.Outward.{Outward}

-- what was written, where that is not out
abbrev pub written_there : Option (Outward MemSink) → Option (List ℕ)
written_there None = None
written_there (Some out) = Some (fakes.bytes_of out.sink)

-- how many bytes more are taken there
abbrev pub room_there : Option (Outward MemSink) → Room
room_there None = Untold
room_there (Some out) = Bound (fakes.room_of out.sink)
