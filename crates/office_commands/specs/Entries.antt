-- One step over the lines of an aside.
use Rattle.std.specs.Prelude.{ℕ, ◌≡◌, ◌+◌, ◌*◌, ◌<◌, ◌≤◌, List, [], ◌∷◌, ◌++◌, length, Option, Some, None}
use Rattle.road_time.specs.Lines.{lines_of}
use Rattle.road_time.specs.declared.road.Notice.{Notice}
use Rattle.office_commands.specs.declared.closing.Closing.{Closing}
use Rattle.office_commands.specs.declared.closing.Closing.TheVariants.{Agree, DiffersLine}
use Rattle.office_commands.specs.declared.aside.AsideEntry.{AsideEntry}
use Rattle.office_commands.specs.declared.aside.AsideEntry.TheVariants.{Line, Long, End}
use Rattle.office_commands.specs.Asides.{entries_of, compared_from}

-- the entries of the bytes that lie ahead
abbrev pub entered : List ℕ → List (List ℕ)
entered bytes = entries_of (lines_of bytes)

-- no entry is left
abbrev pub EndsEntries : List ℕ → Type 0
EndsEntries bytes = entered bytes ≡ []

-- an entry comes first and is taken, or it is long, or none is left
abbrev pub Enters : AsideEntry → Option (List ℕ) → Option (List ℕ) → List ℕ → Type 0
Enters Line before after line =
    (bytes : List ℕ) → before ≡ Some bytes → (now : List ℕ) × (after ≡ Some now) × (entered bytes ≡ line ∷ entered now)
Enters Long before after line =
    (bytes : List ℕ) → before ≡ Some bytes
    → (first : List ℕ) × (rest : List (List ℕ)) × (200 < length first) × (entered bytes ≡ first ∷ rest)
Enters End before after line = (bytes : List ℕ) → before ≡ Some bytes → EndsEntries bytes

-- the entry is the text of the notice, and the comparison goes on behind it
abbrev pub GoesOn : ℕ → Notice → Option (List ℕ) → Option (List ℕ) → Type 0
GoesOn n w before after = (rest : List Notice) (bytes : List ℕ) → before ≡ Some bytes
    → (now : List ℕ) × (after ≡ Some now)
    × (compared_from n (w ∷ rest) (entered bytes) ≡ compared_from (n + 1) rest (entered now))

-- the comparison ends at the entry
abbrev pub PartsAt : ℕ → Notice → Option (List ℕ) → Closing → Type 0
PartsAt n w before c =
    (rest : List Notice) (bytes : List ℕ) → before ≡ Some bytes → c ≡ compared_from n (w ∷ rest) (entered bytes)

-- a closing line of a comparison
abbrev pub IsComparison : Closing → Type 0
IsComparison (Agree notices) = Unit {0}
IsComparison (DiffersLine line wanted found) = Unit {0}
IsComparison _ = ⊥

-- none, or a closing line of a comparison
abbrev pub IsComparisonOr : Option Closing → Type 0
IsComparisonOr None = Unit {0}
IsComparisonOr (Some c) = IsComparison c

-- of the bytes that an aside had, some were taken as so many lines at most; the rest lies ahead
pub record HasReadEntries (front : Option (List ℕ)) (lines : ℕ) (bytes : List ℕ) : Type 0 where
  pub taken : List ℕ
  pub now : List ℕ
  pub ahead_is : front ≡ Some now
  pub bytes_are : bytes ≡ taken ++ now
  pub few : length taken ≤ 201 * lines

-- the most that an aside is read: a line more than notices are wanted, each of 200 bytes and its end, and one buffer
abbrev pub most_compared : ℕ → ℕ
most_compared notices = 201 * (notices + 1) + 65536
