-- What sources and sinks in memory hold, how much they move at once, and which of their calls fail.
use Rattle.std.specs.Prelude.{ℕ, Bool, List, drop}
use Rattle.road_io.specs.declared.memory.MemSource.{MemSource}
use Rattle.road_io.specs.declared.memory.MemSink.{MemSink}
use Rattle.road_io.specs.Plans.{planned}

-- the bytes that a source has left
abbrev pub left_of : MemSource → List ℕ
left_of s = drop s.at s.bytes.items

-- which of its calls to come fail
abbrev pub plan_of : MemSource → ℕ → Bool
plan_of s = planned s.fails.items s.calls

-- the bytes that a sink has
abbrev pub bytes_of : MemSink → List ℕ
bytes_of s = s.bytes.items

-- how many more it takes
abbrev pub room_of : MemSink → ℕ
room_of s = s.room

-- the most bytes that a source gives at once
abbrev pub most_read : MemSource → ℕ
most_read s = s.piece

-- the most bytes that a sink takes at once
abbrev pub most_written : MemSink → ℕ
most_written s = s.piece

-- the failed calls that a source counted
abbrev pub source_faults : MemSource → ℕ
source_faults s = s.faults

-- the failed calls that a sink counted
abbrev pub sink_faults : MemSink → ℕ
sink_faults s = s.faults
