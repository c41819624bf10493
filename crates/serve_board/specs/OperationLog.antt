-- The history of a board: its operations, the word that counts its pens, and a beginning of it that somebody has.
use Rattle.std.specs.Prelude.{◌≡◌, ℕ, zero, suc, ◌+◌, ◌<◌, ◌==◌, true, false, List, [], ◌∷◌, ◌++◌, length, refl}
use Rattle.std.specs.Bool.{MatchBool}
use Rattle.std.specs.Coded.{Coded, code_by, coded×, coded_ℕ}
use Rattle.logbook.specs.Pages.{Cell, View, Book, Named, Nib, nib, may_make, may_write}
use Rattle.logbook.specs.Pages as logbook
use Rattle.day_floor.specs.Operations.{Operation}
use Rattle.serve_board.specs.Codes.{operations_code}

-- so many cells at home, and others behind them
abbrev pub homes : ℕ → List Cell → List Cell
homes zero rest = rest
homes (suc n) rest = (0, true) ∷ homes n rest

-- so many cells that are not at home: a pen is out for each
abbrev pub aways : ℕ → List Cell
aways zero = []
aways (suc n) = (0, false) ∷ aways n

-- the cells of a history of so many operations, with so many pens out: the word that counts both, a cell at home for each
-- operation, and one for each pen
abbrev pub cells_of : ℕ → ℕ → List Cell
cells_of n pens = (n + pens, true) ∷ homes n (aways pens)

-- the rule of a history: an operation is added by whoever brings home the pen that was given first of those that are out.
-- So while one has that pen nobody else adds an operation
pub record Counted (cells : List Cell) (log : List Operation) : Type 0 where
  pub pens : ℕ
  pub words : cells ≡ cells_of (length log) pens

-- the word that counts the pens of a history
abbrev pub head_of : Book → Named
head_of b = record { tracked = true; key = 0; book = b }

-- the pen for the operation that has so many before it
abbrev pub pen_for : ℕ → Nib
pen_for before = nib may_write (suc before) 0

-- where the count was as expected, there is a pen more, whose key is the count now
abbrev pub GivesPen : logbook.Step Operation → View Operation ℕ → ℕ → View Operation ℕ → Type 0
GivesPen s v found w = MatchBool (found == s.old) (w.1.0 ≡ nib may_make s.new 0) (Unit {0})

-- an operation was added to all that had been seen
abbrev pub AddsSeen : logbook.Step Operation → View Operation ℕ → ℕ → View Operation ℕ → Type 0
AddsSeen s v found w = w.0 ≡ v.0 ++ s.ask ∷ []

-- all operations are seen, which are fewer than the key of the pen says, and the pen is as it was
abbrev pub SeesAll : logbook.Step Operation → View Operation ℕ → ℕ → View Operation ℕ → Type 0
SeesAll s v found w = (w.1.0 ≡ v.1.0) × (length w.0 < v.1.0.key)

-- a beginning of a history: of which one, and its operations
pub record Reach : Type 0 where
  pub book : Book
  pub log : List Operation

-- a beginning is stored as its parts
abbrev pub reach_code : Coded Reach
reach_code =
    code_by ((ℕ × (ℕ × ℕ)) × List Operation) (coded× (coded× coded_ℕ (coded× coded_ℕ coded_ℕ)) operations_code)
    (λ r. ((r.book.number, (r.book.log_name, r.book.cells_name)), r.log))
    (λ p. record { book = record { number = p.0.0; log_name = p.0.1.0; cells_name = p.0.1.1 }; log = p.1 }) (λ _. refl)

-- the numbers that tell a history from all others
abbrev pub numbers_of : Book → List ℕ
numbers_of b = b.number ∷ b.log_name ∷ b.cells_name ∷ []
