-- What a link in memory stands for.
use Rattle.std.specs.Prelude.{ℕ, Bool, List}
use Rattle.road_io.specs.Fakes as fakes
use Rattle.road_io.specs.declared.memory.MemLink.{MemLink}

-- the bytes that it has left to give
abbrev pub left_of : MemLink → List ℕ
left_of l = fakes.left_of l.input

-- which of its reads to come fail
abbrev pub plan_of : MemLink → ℕ → Bool
plan_of l = fakes.plan_of l.input

-- the bytes that were written to it
abbrev pub bytes_of : MemLink → List ℕ
bytes_of l = fakes.bytes_of l.output

-- how many more it takes
abbrev pub room_of : MemLink → ℕ
room_of l = fakes.room_of l.output

-- the most bytes that one of its reads gives
abbrev pub most_read : MemLink → ℕ
most_read l = fakes.most_read l.input

-- the most bytes that one of its writes takes
abbrev pub most_written : MemLink → ℕ
most_written l = fakes.most_written l.output

-- the failed calls that it counted
abbrev pub link_faults : MemLink → ℕ
link_faults l = l.faults
