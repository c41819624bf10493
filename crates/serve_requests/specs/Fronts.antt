-- What a link's bytes begin with.
use Rattle.std.specs.Prelude.{◌≡◌, ◌⊎◌, ℕ, ◌<◌, ◌≤◌, ◌+◌, List, [], ◌++◌, length, take, drop, Option, Some}
use Rattle.httparse.specs.Grammar.{RequestHead, ReadsRequest, EndsInTarget}

-- the most bytes in which a head must end
abbrev pub head_room : ℕ
head_room = 8192

-- the first bytes of a link, in which a head must end
abbrev pub front_of : List ℕ → List ℕ
front_of bytes = take head_room bytes

-- a head of at most 64 fields stands first in bytes, with others behind it
abbrev pub HasHead : List ℕ → RequestHead → List ℕ → Type 0
HasHead bytes h rest = ReadsRequest bytes h rest × (length h.fields ≤ 64)

-- no head stands first in bytes
abbrev pub HasNoHead : List ℕ → Type 0
HasNoHead bytes = (h : RequestHead) (rest : List ℕ) → HasHead bytes h rest → ⊥

-- whatever follows, no head stands first
abbrev pub NeverHasHead : List ℕ → Type 0
NeverHasHead bytes = (more : List ℕ) → HasNoHead (bytes ++ more)

-- a front is no head and becomes none: it is as long as a front can be, or no bytes make it one
abbrev pub IsBadHead : List ℕ → Type 0
IsBadHead front = HasNoHead front × ((length front ≡ head_room) ⊎ NeverHasHead front)

-- bytes may follow that complete a head; or the bytes end in a target, or the head has more than 64 fields, where this
-- is not looked at
abbrev pub MayGoOn : List ℕ → Type 0
MayGoOn bytes = ((more : List ℕ) × (h : RequestHead) × ReadsRequest (bytes ++ more) h []) ⊎ EndsInTarget bytes

-- a front ends before its head does
abbrev pub IsCutHead : List ℕ → Type 0
IsCutHead front = HasNoHead front × (length front < head_room) × MayGoOn front

-- so many of these bytes are held, by reads of at most so many: before the last read no head stood first in what was
-- held, and one might still come
abbrev pub HeldSoon : ℕ → List ℕ → ℕ → Type 0
HeldSoon most bytes held =
    (held ≡ 0)
    ⊎ ((before : ℕ) × (held ≤ before + most) × HasNoHead (take before bytes) × MayGoOn (take before bytes))

-- no more of these bytes was read than it took to see a head, or that none comes
abbrev pub ReadsSoon : ℕ → List ℕ → Option (List ℕ) → Type 0
ReadsSoon most bytes left = (held : ℕ) × (left ≡ Some (drop held bytes)) × HeldSoon most bytes held
