-- What sending an answer does to a link, and how a session ends.
use Rattle.std.specs.Prelude.{◌≡◌, ◌⊎◌, ℕ, ◌<◌, ◌≤◌, List, length, take, Option, codes}
use Rattle.std.specs.Io.KnownBytes.{Appends}
use Rattle.road_io.specs.Rooms.{Room, Untold, Bound, Endless}
use Rattle.serve_requests.specs.declared.wanted.Refusal.{Refusal}
use Rattle.serve_requests.specs.declared.wanted.Refusal.TheVariants.{BadHead, BadOrigin, NoPath, BadMethod, BadLength}
use Rattle.serve_requests.specs.declared.wanted.Refusal.TheVariants.{LengthNeeded, TooLong}
use Rattle.serve_requests.specs.Pages.{page_bytes}
use Rattle.serve_requests.specs.Replies.{Reply, reply_bytes, error_reply, no_memory_reply}
use Rattle.serve_requests.specs.declared.session_end.SessionEnd.{SessionEnd}
use Rattle.serve_requests.specs.declared.session_end.SessionEnd.TheVariants.{Answered, Cut, LinkFault}

-- an answer was sent whole, and the session ends with its status; or fewer of its first bytes, and the link failed
abbrev pub Sends : ℕ → List ℕ → Option (List ℕ) → Option (List ℕ) → SessionEnd → Type 0
Sends status text old new (Answered s) = (s ≡ status) × Appends old new text
Sends status text old new Cut = ⊥
Sends status text old new LinkFault = (k : ℕ) × (k < length text) × Appends old new (take k text)

-- a reply was sent
abbrev pub SendsReply : Reply → Option (List ℕ) → Option (List ℕ) → SessionEnd → Type 0
SendsReply r old new end = Sends r.status (reply_bytes r) old new end

-- a reply was sent, or the one for want of memory
abbrev pub Replies : Reply → Option (List ℕ) → Option (List ℕ) → SessionEnd → Type 0
Replies r old new end = SendsReply r old new end ⊎ SendsReply no_memory_reply old new end

-- the answer of a request that is refused at once
abbrev pub refusal_reply : Refusal → Reply
refusal_reply BadHead = error_reply 400 (codes "head")
refusal_reply BadOrigin = error_reply 403 (codes "origin")
refusal_reply NoPath = error_reply 404 (codes "no path")
refusal_reply BadMethod = error_reply 405 (codes "method")
refusal_reply BadLength = error_reply 400 (codes "length")
refusal_reply LengthNeeded = error_reply 411 (codes "length needed")
refusal_reply TooLong = error_reply 413 (codes "too long")

-- a link takes so many bytes more
abbrev pub HasRoom : Room → ℕ → Type 0
HasRoom Untold n = ⊥
HasRoom (Bound most) n = n ≤ most
HasRoom Endless n = Unit {0}

-- a link takes an answer, and the one for want of memory
abbrev pub HasRoomFor : Room → Reply → Type 0
HasRoomFor room r = HasRoom room (length (reply_bytes r)) × HasRoom room (length (reply_bytes no_memory_reply))

-- no answer of a request that is refused at once has more bytes
abbrev pub refusal_room : ℕ
refusal_room = 128

-- the page was sent, or the reply for want of memory
abbrev pub SendsPage : Option (List ℕ) → Option (List ℕ) → SessionEnd → Type 0
SendsPage old new end = Sends 200 page_bytes old new end ⊎ SendsReply no_memory_reply old new end

-- a link takes the answer that has the page, and the one for want of memory
abbrev pub HasRoomForPage : Room → Type 0
HasRoomForPage room = HasRoom room (length page_bytes) × HasRoom room (length (reply_bytes no_memory_reply))
