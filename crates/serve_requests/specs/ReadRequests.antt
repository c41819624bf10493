-- What the reading of a request answers.
use Rattle.std.specs.Prelude.{◌≡◌, ◌⊎◌, ℕ, ◌≤◌, List, ◌++◌, length, take, Option, Some, Result, Ok, Err}
use Rattle.httparse.specs.Grammar.{RequestHead, print_request}
use Rattle.serve_requests.specs.Fronts.{head_room, front_of, HasHead, IsBadHead, IsCutHead}
use Rattle.serve_requests.specs.Requests.{wanted_of}
use Rattle.serve_requests.specs.declared.wanted.Wanted.{Wanted}
use Rattle.serve_requests.specs.declared.wanted.Wanted.TheVariants as wanted
use Rattle.serve_requests.specs.declared.wanted.Refusal.{Refusal}
use Rattle.serve_requests.specs.declared.wanted.Refusal.TheVariants.{BadHead}
use Rattle.serve_requests.specs.Replies.{no_memory_reply}
use Rattle.serve_requests.specs.Sends.{SendsReply, refusal_reply}
use Rattle.serve_requests.specs.declared.asked.Asked.{Asked}
use Rattle.serve_requests.specs.declared.asked.Asked.TheVariants.{Day, Import, Spent, Live, LiveTotal, Vehicle, Days}
use Rattle.serve_requests.specs.declared.asked.Asked.TheVariants.{Page}
use Rattle.serve_requests.specs.declared.asked.Asked.TheVariants.{Answers, Health}
use Rattle.serve_requests.specs.declared.session_end.SessionEnd.{SessionEnd}
use Rattle.serve_requests.specs.declared.session_end.SessionEnd.TheVariants.{Answered, Cut, LinkFault}

-- what is asked for, with the first bytes of the body among those behind a head
abbrev pub asked_for : Wanted → List ℕ → Asked
asked_for (wanted.Day day) rest = Day day
asked_for (wanted.Import day count) rest = Import day count (take count rest)
asked_for (wanted.Spent day xway vid) rest = Spent day xway vid
asked_for (wanted.Live vid) rest = Live vid
asked_for wanted.LiveTotal rest = LiveTotal
asked_for (wanted.Vehicle vid from to) rest = Vehicle vid from to
asked_for wanted.Days rest = Days
asked_for wanted.Page rest = Page
asked_for wanted.Health rest = Health
asked_for (wanted.Answers day count) rest = Answers day count (take count rest)

-- the numbers of what is asked are in their ranges
abbrev pub IsAsked : Asked → Type 0
IsAsked (Day day) = (70 ≤ day) × (day ≤ 1000000)
IsAsked (Import day count early) = (70 ≤ day) × (day ≤ 1000000) × (count ≤ 4000000000) × (length early ≤ count)
IsAsked (Spent day xway vid) = (1 ≤ day) × (day ≤ 1000000) × (vid ≤ 2147483647)
IsAsked (Live vid) = vid ≤ 2147483647
IsAsked LiveTotal = Unit {0}
IsAsked (Vehicle vid from to) = (vid ≤ 2147483647) × (1 ≤ from) × (from ≤ to) × (to ≤ 1000000)
IsAsked Days = Unit {0}
IsAsked Page = Unit {0}
IsAsked Health = Unit {0}
IsAsked (Answers day count early) = (70 ≤ day) × (day ≤ 1000000) × (count ≤ 4000000000) × (length early ≤ count)

-- what is asked without the body
abbrev pub wanted_in : Asked → Wanted
wanted_in (Day day) = wanted.Day day
wanted_in (Import day count early) = wanted.Import day count
wanted_in (Spent day xway vid) = wanted.Spent day xway vid
wanted_in (Live vid) = wanted.Live vid
wanted_in LiveTotal = wanted.LiveTotal
wanted_in (Vehicle vid from to) = wanted.Vehicle vid from to
wanted_in Days = wanted.Days
wanted_in Page = wanted.Page
wanted_in Health = wanted.Health
wanted_in (Answers day count early) = wanted.Answers day count

-- a head stands first in a link's bytes and ends within the first 8,192; what follows it
abbrev pub Heads : List ℕ → RequestHead → List ℕ → Type 0
Heads bytes h after = HasHead bytes h after × (length (print_request h) ≤ head_room)

-- the early bytes and what is left of the link begin with the body, as the bytes behind the head do
abbrev pub HasBody : Asked → List ℕ → Option (List ℕ) → Type 0
HasBody (Import day count early) after left =
    (more : List ℕ) × (left ≡ Some more) × (take count (early ++ more) ≡ take count after)
HasBody (Day day) after left = Unit {0}
HasBody (Spent day xway vid) after left = Unit {0}
HasBody (Live vid) after left = Unit {0}
HasBody LiveTotal after left = Unit {0}
HasBody (Vehicle vid from to) after left = Unit {0}
HasBody Days after left = Unit {0}
HasBody Page after left = Unit {0}
HasBody Health after left = Unit {0}
HasBody (Answers day count early) after left =
    (more : List ℕ) × (left ≡ Some more) × (take count (early ++ more) ≡ take count after)

-- why a request of these bytes is refused: its head is bad, or what its head asks for is refused
abbrev pub IsRequestRefused : List ℕ → Refusal → Type 0
IsRequestRefused bytes r =
    ((r ≡ BadHead) × IsBadHead (front_of bytes))
    ⊎ ((h : RequestHead) × (after : List ℕ) × Heads bytes h after × (wanted_of h ≡ Err r))

-- what is wanted has a body
abbrev pub WantsBody : Wanted → Type 0
WantsBody (wanted.Import day count) = Unit {0}
WantsBody (wanted.Answers day count) = Unit {0}
WantsBody (wanted.Day day) = ⊥
WantsBody (wanted.Spent day xway vid) = ⊥
WantsBody (wanted.Live vid) = ⊥
WantsBody wanted.LiveTotal = ⊥
WantsBody (wanted.Vehicle vid from to) = ⊥
WantsBody wanted.Days = ⊥
WantsBody wanted.Page = ⊥
WantsBody wanted.Health = ⊥

-- a head stands first that asks for what has a body
abbrev pub AsksWithBody : List ℕ → Type 0
AsksWithBody bytes =
    (h : RequestHead) × (after : List ℕ) × (w : Wanted) × Heads bytes h after × (wanted_of h ≡ Ok w) × WantsBody w

-- an answer of the reading: what is asked; or the request was refused, with its answer; or it has a body, of whose first
-- bytes there was no memory; or the bytes end before the head; or the link failed
abbrev pub ReadsHeadAsked : List ℕ → Option (List ℕ) → Option (List ℕ) → Option (List ℕ) → Result Asked SessionEnd →
    Type 0
ReadsHeadAsked bytes left old new (Ok asked) =
    (h : RequestHead) × (after : List ℕ) × Heads bytes h after
    × (wanted_of h ≡ Ok (wanted_in asked)) × HasBody asked after left × (new ≡ old)
ReadsHeadAsked bytes left old new (Err Cut) = IsCutHead (front_of bytes) × (new ≡ old)
ReadsHeadAsked bytes left old new (Err (Answered status)) =
    ((r : Refusal) × IsRequestRefused bytes r × SendsReply (refusal_reply r) old new (Answered status))
    ⊎ (AsksWithBody bytes × SendsReply no_memory_reply old new (Answered status))
ReadsHeadAsked bytes left old new (Err LinkFault) =
    (new ≡ old)
    ⊎ (((r : Refusal) × IsRequestRefused bytes r × SendsReply (refusal_reply r) old new LinkFault)
    ⊎ (AsksWithBody bytes × SendsReply no_memory_reply old new LinkFault))
