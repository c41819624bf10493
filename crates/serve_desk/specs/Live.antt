-- What is answered of the live board.
use Rattle.std.specs.Prelude.{◌≡◌, ◌⊎◌, ℕ, Option, Some, None}
use Rattle.day_floor.specs.Boards.{BoardState}
use Rattle.day_floor.specs.Shown.{shown_after}
use Rattle.serve_board.specs.declared.live.Live.{Live as Shown}
use Rattle.serve_board.specs.Passes.{Pass, Sees, balance_on, total_on}
use Rattle.serve_requests.specs.Bodies.{live_body, total_body}
use Rattle.serve_requests.specs.Replies.{Reply, no_memory_reply}
use Rattle.serve_requests.specs.declared.asked.Asked.{Asked}
use Rattle.serve_requests.specs.declared.asked.Asked.TheVariants.{Day, Import, Spent, Live, LiveTotal, Vehicle, Days}
use Rattle.serve_requests.specs.declared.asked.Asked.TheVariants.{Page}
use Rattle.serve_requests.specs.declared.asked.Asked.TheVariants.{Answers, Health}
use Rattle.serve_requests.specs.declared.session_end.SessionEnd.{SessionEnd}
use Rattle.serve_desk.specs.Answers.{Wire, AnswersReply, good}

-- whom a request of the live board is about: a vehicle, or all
abbrev pub asked_of : Asked → Option ℕ
asked_of (Live vid) = Some vid
asked_of LiveTotal = None
asked_of (Day day) = None
asked_of (Spent day xway vid) = None
asked_of (Import day count early) = None
asked_of (Vehicle vid from to) = None
asked_of Days = None
asked_of Page = None
asked_of Health = None
asked_of (Answers day count early) = None

-- a request asks for the live board
abbrev pub IsOfLive : Asked → Type 0
IsOfLive (Live vid) = Unit {0}
IsOfLive LiveTotal = Unit {0}
IsOfLive (Day day) = ⊥
IsOfLive (Spent day xway vid) = ⊥
IsOfLive (Import day count early) = ⊥
IsOfLive (Vehicle vid from to) = ⊥
IsOfLive Days = ⊥
IsOfLive Page = ⊥
IsOfLive Health = ⊥
IsOfLive (Answers day count early) = ⊥

-- a vehicle's account on a board, or what all owe
abbrev pub live_of : Option ℕ → BoardState → Shown
live_of (Some vid) b = balance_on b vid
live_of None b = total_on b

-- the reply of what was seen of a vehicle, or of all
abbrev pub live_reply : Option ℕ → Shown → Reply
live_reply (Some vid) s = good (live_body s.as_of s.amount s.day)
live_reply None s = good (total_body s.as_of s.day s.amount)

-- the board is read once, by operations that begin with all that the reader saw before, and what it shows after them is
-- answered; or the reader gives nothing and stays as it was, which is answered as want of memory is
abbrev pub AnswersLive : Option ℕ → Pass → Pass → Wire → Wire → SessionEnd → Type 0
AnswersLive vid p q old new end =
    (Sees p q × AnswersReply (live_reply vid (live_of vid (shown_after q.seen))) old.room old.written new.written end)
    ⊎ ((q ≡ p) × AnswersReply no_memory_reply old.room old.written new.written end)
