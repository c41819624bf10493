-- The history of a keeper under a lock: what it was from time to time, and the word that counts that.
use Rattle.std.specs.Prelude.{◌≡◌, ℕ, ◌+◌, ◌-◌, ◌==◌, true, List, [], ◌∷◌, ◌++◌, length, Option, Some, None, slice_get}
use Rattle.std.specs.Bool.{MatchBool}
use Rattle.logbook.specs.Pages.{Cell, View, Book, Named}
use Rattle.logbook.specs.Pages as logbook
use Rattle.keep_office.specs.Office.{Office}

-- the rule of a history: its word counts what came behind the first
pub record Counted {K : Type 0} (cells : List Cell) (log : List K) : Type 0 where
  pub count : ℕ
  pub words : cells ≡ (count, true) ∷ []
  pub counted : length log ≡ count + 1

-- the word that counts a history
abbrev pub head_of : Book → Named
head_of b = record { tracked = true; key = 0; book = b }

-- where the count was that of all that had been seen, what the keeper is was added to these
abbrev pub AddsSeen : {K : Type 0} → logbook.Step K → View K ℕ → ℕ → View K ℕ → Type 0
AddsSeen s v found w = MatchBool (found == s.old) (w.0 ≡ v.0 ++ s.ask ∷ []) (Unit {0})

-- what was told by whom there may be none
abbrev pub told_by : {K : Type 0} → (K → Option Office) → Option K → Option Office
told_by told None = None
told_by told (Some k) = told k

-- what the keeper told where so many came before in its history
abbrev pub told_at : {K : Type 0} → (K → Option Office) → List K → ℕ → Option Office
told_at told log n = told_by told (slice_get log n)

-- what the keeper told at the last of its history
abbrev pub told_last : {K : Type 0} → (K → Option Office) → List K → Option Office
told_last told log = told_at told log (length log - 1)

-- a history goes on from another
abbrev pub GoesOn : {K : Type 0} → List K → List K → Type 0
GoesOn {K} old new = (more : List K) × (new ≡ old ++ more)
