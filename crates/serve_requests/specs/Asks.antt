-- What the reading of a request finds.
use Rattle.std.specs.Prelude.{◌≡◌, ℕ, ◌≤◌, List, length, take, Option, Some}
use Rattle.std.specs.Io.KnownBytes.{prepend_known}
use Rattle.httparse.specs.Grammar.{RequestHead, HasNoRequest}
use Rattle.httparse.specs.Spans.{IsRequestAt, IsRequestWithin}
use Rattle.httparse.specs.declared.spans.HeaderSpan.{HeaderSpan}
use Rattle.serve_requests.specs.Fronts.{front_of, NeverHasHead, MayGoOn, IsBadHead, IsCutHead}
use Rattle.serve_requests.specs.declared.wanted.Wanted.{Wanted}
use Rattle.serve_requests.specs.declared.wanted.Wanted.TheVariants.{Day, Import, Spent, Live, LiveTotal, Vehicle}
use Rattle.serve_requests.specs.declared.wanted.Wanted.TheVariants.{Days, Page}
use Rattle.serve_requests.specs.declared.wanted.Wanted.TheVariants.{Answers, Health}
use Rattle.serve_requests.specs.declared.fronts.Look.{Look}
use Rattle.serve_requests.specs.declared.fronts.Look.TheVariants.{Whole, Open, Never}
use Rattle.serve_requests.specs.declared.fronts.Front.{Front}
use Rattle.serve_requests.specs.declared.fronts.Front.TheVariants.{Head, Bad, Cut, LinkFault}

-- the numbers of what is asked for are in their ranges
abbrev pub IsWanted : Wanted → Type 0
IsWanted (Day day) = (70 ≤ day) × (day ≤ 1000000)
IsWanted (Import day count) = (70 ≤ day) × (day ≤ 1000000) × (count ≤ 4000000000)
IsWanted (Spent day xway vid) = (1 ≤ day) × (day ≤ 1000000) × (vid ≤ 2147483647)
IsWanted (Live vid) = vid ≤ 2147483647
IsWanted LiveTotal = Unit {0}
IsWanted (Vehicle vid from to) = (vid ≤ 2147483647) × (1 ≤ from) × (from ≤ to) × (to ≤ 1000000)
IsWanted Days = Unit {0}
IsWanted Page = Unit {0}
IsWanted Health = Unit {0}
IsWanted (Answers day count) = (70 ≤ day) × (day ≤ 1000000) × (count ≤ 4000000000)

-- what stands first in some bytes
abbrev pub IsLook : List ℕ → List HeaderSpan → Look → Type 0
IsLook buf headers (Whole spans) =
    (h : RequestHead) × IsRequestAt buf headers spans h × (length h.fields ≤ 64) × IsRequestWithin buf headers spans
IsLook buf headers Open = HasNoRequest buf × MayGoOn buf
IsLook buf headers Never = NeverHasHead buf

-- a head was found in the first of a buffer's bytes
abbrev pub IsHeld : List ℕ → List HeaderSpan → Front → Type 0
IsHeld buf headers (Head held spans) = (held ≤ length buf) × IsRequestWithin (take held buf) headers spans
IsHeld buf headers Bad = Unit {0}
IsHeld buf headers Cut = Unit {0}
IsHeld buf headers LinkFault = Unit {0}

-- what stands first in a link's bytes; what was read is the first of them, and the rest is left
abbrev pub IsLinkFront : List ℕ → List ℕ → List HeaderSpan → Option (List ℕ) → Front → Type 0
IsLinkFront bytes buf headers left (Head held spans) =
    (h : RequestHead) × IsRequestAt (take held buf) headers spans h × (length h.fields ≤ 64)
    × (prepend_known (take held buf) left ≡ Some bytes)
IsLinkFront bytes buf headers left Bad = IsBadHead (front_of bytes)
IsLinkFront bytes buf headers left Cut = IsCutHead (front_of bytes)
IsLinkFront bytes buf headers left LinkFault = Unit {0}
