-- Laws of heads, which no code runs: bytes begin with at most one, and a bad one is not a cut one.

use Rattle.std.specs.Prelude.{◌≡◌, ◌⊎◌, ℕ, ◌<◌, List, [], ◌++◌, length}
use Rattle.httparse.specs.Grammar.{RequestHead, ReadsRequest, EndsInTarget}
use Rattle.serve_requests.specs.Fronts.{HasHead, IsBadHead, IsCutHead}

-- at most one head stands first in some bytes, and where one does they are neither bad nor cut
abbrev pub IsOneHead : Type 0
IsOneHead = (bytes : List ℕ) (h : RequestHead) (rest : List ℕ) → HasHead bytes h rest
    → ((k : RequestHead) (more : List ℕ) → HasHead bytes k more → (k ≡ h) × (more ≡ rest))
    × (IsBadHead bytes → ⊥) × (IsCutHead bytes → ⊥)

-- what is not looked at: bytes that end in a target, and heads of more than 64 fields
abbrev pub IsUnjudged : List ℕ → Type 0
IsUnjudged bytes =
    EndsInTarget bytes
    ⊎ ((more : List ℕ) × (h : RequestHead) × ReadsRequest (bytes ++ more) h [] × (64 < length h.fields))

-- bad and cut heads differ, but for what is not looked at
abbrev pub AreApart : Type 0
AreApart = (bytes : List ℕ) → IsBadHead bytes → IsCutHead bytes → IsUnjudged bytes
