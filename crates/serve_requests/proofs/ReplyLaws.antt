-- Laws of reading a request and answering it.
use Rattle.std.proofs.Common.{◌≡◌, ℕ, ◌≤◌, inl, inr, List, [], ◌∷◌, ◌++◌, length, take, drop, zero, suc, Option, Some}
use Rattle.std.proofs.Common.{None, Err, refl, ap, subst, arith}
use Rattle.std.specs.Fmt.{digits}
use Rattle.std.specs.Io.KnownBytes.{prepend_known}
use Rattle.std.proofs.lemmas.List.{length-append}
use Rattle.httparse.specs.Grammar.{RequestHead, ReadsRequest, print_request}
use Rattle.httparse.specs.Spans.{IsRequestAt}
use Rattle.httparse.specs.declared.spans.HeaderSpan.{HeaderSpan}
use Rattle.httparse.specs.declared.spans.RequestSpans.{RequestSpans}
use Rattle.httparse.proofs.GrammarLemmas.{ReadsRequest-append}
use Rattle.serve_requests.specs.declared.wanted.Wanted.{Wanted}
use Rattle.serve_requests.specs.declared.wanted.Wanted.TheVariants as wanted
use Rattle.road_io.specs.Rooms.{Room, Untold, Bound, Endless, Refuses}
use Rattle.serve_requests.specs.declared.wanted.Refusal.{Refusal}
use Rattle.serve_requests.specs.declared.wanted.Refusal.TheVariants.{BadHead, BadOrigin, NoPath, BadMethod, BadLength}
use Rattle.serve_requests.specs.declared.wanted.Refusal.TheVariants.{LengthNeeded, TooLong}
use Rattle.serve_requests.specs.Replies.{Reply, reply_bytes, no_memory_reply}
use Rattle.serve_requests.specs.Sends.{SendsReply, HasRoom, HasRoomFor, refusal_reply, refusal_room}
use Rattle.serve_requests.specs.ReadRequests.{asked_for, wanted_in, Heads, HasBody, IsRequestRefused, ReadsHeadAsked}
use Rattle.serve_requests.specs.ReadRequests.{AsksWithBody}
use Rattle.serve_requests.specs.declared.session_end.SessionEnd.{SessionEnd}
use Rattle.serve_requests.specs.declared.session_end.SessionEnd.TheVariants.{Answered, Cut, LinkFault}

-- a status and a body
abbrev pub reply_of : ℕ → List ℕ → Reply
reply_of status body = record { status = status; body = body }

-- a head that was read stands first in all the bytes
pub heads_on : (buf bytes : List ℕ) (headers : List HeaderSpan) (spans : RequestSpans) (h : RequestHead)
    (left : Option (List ℕ)) → IsRequestAt buf headers spans h → length h.fields ≤ 64 → length buf ≤ 8192 →
    prepend_known buf left ≡ Some bytes
    → (more : List ℕ) × (left ≡ Some more) × Heads bytes h (drop spans.len buf ++ more)
heads_on buf bytes headers spans h None at few short known = absurd (cc known)
heads_on buf bytes headers spans h (Some more) at few short known =
    let is : buf ++ more ≡ bytes = cc known in
    let reads = ReadsRequest-append buf h (drop spans.len buf) more at.reads in
    let long = length-append (print_request h) (drop spans.len buf) in (
      more,
      refl,
      (
        (subst (λ l. ReadsRequest l h (drop spans.len buf ++ more)) is reads, few),
        omega
            (arith, short, long, ap length at.reads.1),
      ),
    )

-- what is asked for is what was wanted
pub wanted_same : (w : Wanted) (rest : List ℕ) → wanted_in (asked_for w rest) ≡ w
wanted_same (wanted.Day day) rest = refl
wanted_same (wanted.Import day count) rest = refl
wanted_same (wanted.Spent day xway vid) rest = refl
wanted_same (wanted.Live vid) rest = refl
wanted_same wanted.LiveTotal rest = refl
wanted_same (wanted.Vehicle vid from to) rest = refl
wanted_same wanted.Days rest = refl
wanted_same wanted.Page rest = refl
wanted_same wanted.Health rest = refl
wanted_same (wanted.Answers day count) rest = refl

take_front : (n : ℕ) (rest more : List ℕ) → take n (take n rest ++ more) ≡ take n (rest ++ more)
take_front zero rest more = refl
take_front (suc n) [] more = refl
take_front (suc n) (b ∷ rest) more = ap (λ l. b ∷ l) (take_front n rest more)

-- the body begins behind the head
pub has_body : (w : Wanted) (rest more : List ℕ) → HasBody (asked_for w rest) (rest ++ more) (Some more)
has_body (wanted.Day day) rest more = tt
has_body (wanted.Import day count) rest more = (more, refl, take_front count rest more)
has_body (wanted.Spent day xway vid) rest more = tt
has_body (wanted.Live vid) rest more = tt
has_body wanted.LiveTotal rest more = tt
has_body (wanted.Vehicle vid from to) rest more = tt
has_body wanted.Days rest more = tt
has_body wanted.Page rest more = tt
has_body wanted.Health rest more = tt
has_body (wanted.Answers day count) rest more = (more, refl, take_front count rest more)

-- a refusal that was answered
pub refused : (bytes : List ℕ) (left old new : Option (List ℕ)) (r : Refusal) (end : SessionEnd) →
    IsRequestRefused bytes r → SendsReply (refusal_reply r) old new end → ReadsHeadAsked bytes left old new (Err end)
refused bytes left old new r (Answered s) is sent = inl (r, is, sent)
refused bytes left old new r Cut is sent = absurd sent
refused bytes left old new r LinkFault is sent = inr (inl (r, is, sent))

-- want of memory for the first bytes of a body was answered
pub starved : (bytes : List ℕ) (left old new : Option (List ℕ)) (end : SessionEnd) → AsksWithBody bytes →
    SendsReply no_memory_reply old new end → ReadsHeadAsked bytes left old new (Err end)
starved bytes left old new (Answered s) asks sent = inr (asks, sent)
starved bytes left old new Cut asks sent = absurd sent
starved bytes left old new LinkFault asks sent = inr (inr (asks, sent))

-- a link with room for all bytes does not refuse them
pub never_full : (room after : Room) (n : ℕ) → HasRoom room n → Refuses room after n → ⊥
never_full Untold after n has full = has
never_full (Bound m) Untold n has full = full
never_full (Bound m) (Bound k) n has full = omega (arith, has, full.0)
never_full (Bound m) Endless n has full = full
never_full Endless after n has full = full

-- where there is room for more there is room for fewer
pub room_less : (room : Room) (m n : ℕ) → n ≤ m → HasRoom room m → HasRoom room n
room_less Untold m n le has = has
room_less (Bound most) m n le has = omega (arith, le, has)
room_less Endless m n le has = tt

memory_short : length (reply_bytes no_memory_reply) ≤ refusal_room
unfolding digits
memory_short = omega arith

refusal_short : (r : Refusal) → length (reply_bytes (refusal_reply r)) ≤ refusal_room
unfolding digits
refusal_short BadHead = omega arith
refusal_short BadOrigin = omega arith
refusal_short NoPath = omega arith
refusal_short BadMethod = omega arith
refusal_short BadLength = omega arith
refusal_short LengthNeeded = omega arith
refusal_short TooLong = omega arith

-- a link with room for any refusal has room for this one
pub refusal_has : (room : Room) (r : Refusal) → HasRoom room refusal_room →
    HasRoom room (length (reply_bytes (refusal_reply r)))
refusal_has room r has = room_less room refusal_room _ (refusal_short r) has

pub room_for_memory : (room : Room) → HasRoom room refusal_room → HasRoomFor room no_memory_reply
room_for_memory room has =
    (room_less room refusal_room _ memory_short has, room_less room refusal_room _ memory_short has)
