-- Reading no more than so many bytes.
use Rattle.std.specs.Prelude.{ℕ, ◌≡◌, ◌≤◌, List, drop, Option, Some}

-- of the bytes that a source or a link had, at most the first so many were read
abbrev pub ReadsWithin : ℕ → Option (List ℕ) → Option (List ℕ) → Type 0
ReadsWithin most before after =
    (bytes : List ℕ) → before ≡ Some bytes → (count : ℕ) × (count ≤ most) × (after ≡ Some (drop count bytes))
