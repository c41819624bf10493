-- How long a connection is waited for, in nanoseconds.
use Rattle.std.specs.Prelude.{ℕ, ◌-◌, ◌*◌, ◌^◌}
use Rattle.std.specs.Duration.{as_nanos}
use Rattle.serve_room.specs.declared.patience.Patience.{Patience}

-- what a connection has for its head: 10 seconds
abbrev pub head_time : ℕ
head_time = 10 * 10 ^ 9

-- what a connection has for each portion of 64 KiB, and for all that is left once its turn is over: 30 seconds
abbrev pub portion_time : ℕ
portion_time = 30 * 10 ^ 9

-- how long what still comes of a connection that was answered is dropped: 2 seconds
abbrev pub drain_time : ℕ
drain_time = 2 * 10 ^ 9

-- the bytes of a portion
abbrev pub portion : ℕ
portion = 65536

-- what a whole connection is waited for before its last portion begins: 25 hours
abbrev pub whole_time : ℕ
whole_time = 90000 * 10 ^ 9

-- what is left for the portion that comes
abbrev pub left_of : Patience → ℕ
left_of p = portion_time - as_nanos p.waited

-- what is left for the whole connection before its last portion begins
abbrev pub whole_left_of : Patience → ℕ
whole_left_of p = whole_time - as_nanos p.in_all
