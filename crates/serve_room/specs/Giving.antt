-- Who gives a seat where all are taken, and what it is answered.
use Rattle.std.specs.Prelude.{ℕ, true, false, nat_le, List, ◌++◌, codes, Option, if◌then◌else◌}
use Rattle.serve_room.specs.Posts.{meant_in}
use Rattle.serve_room.specs.declared.posts.Who.{Who}
use Rattle.serve_room.specs.declared.seat.Seat.{Seat}

-- a third of the seats
abbrev pub third : ℕ
third = 240

-- those that wait to post a day, from the last on
abbrev pub posting : Who
posting = record { posts = true; reads = false; free = false; waiting = false; last = true }

-- those that wait for what is kept, from the last on
abbrev pub reading : Who
reading = record { posts = false; reads = true; free = false; waiting = false; last = true }

-- those that wait for their head, from the first on
abbrev pub waiting : Who
waiting = record { posts = false; reads = false; free = false; waiting = true; last = false }

-- of whom one gives a seat: of those that wait to post a day, where they have a third of the seats; else of those that wait
-- for what is kept, where they have; else of those that wait for their head
abbrev pub who_gives : List (Option Seat) → Who
who_gives seats =
    if nat_le third (meant_in posting seats) then posting
    else (if nat_le third (meant_in reading seats) then reading else waiting)

-- what is answered to whoever gives its seat: status 503, and that it may come again after 10 seconds
abbrev pub full_line : List ℕ
full_line =
    codes "HTTP/1.1 503 Service Unavailable\r\nContent-Length: 16\r\nContent-Type: application/json\r\n"
    ++ codes "Connection: close\r\nRetry-After: 10\r\n\r\n{\"error\":\"line\"}"
