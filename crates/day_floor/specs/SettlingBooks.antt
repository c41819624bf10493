-- The book of the tuples that are settled, and what a slot does to it.
use Rattle.std.specs.Prelude.{ℕ, ◌≡◌, ◌+◌, ◌≤◌, Bool, true, false, List, [], ◌∷◌, length, Option, Some, None, IsSome}
use Rattle.std.specs.Prelude.{if◌then◌else◌}
use Rattle.std.specs.Option.{unwrap_or}
use Rattle.std.specs.FinMap.{get, insert}
use Rattle.road_time.specs.declared.road.Tuple.{Tuple}
use Rattle.road_time.specs.Sights.{moments, Sight, sights_of, previous}
use Rattle.road_time.specs.Stays.{is_told}
use Rattle.road_time.specs.Tolls.{StretchTold}
use Rattle.road_time.specs.Day.{ChargedToll as Owed, charges_by}
use Rattle.day_floor.specs.declared.tracked.Charge.{Charge}
use Rattle.day_floor.specs.declared.tracked.Charge.TheVariants.{No, Last}
use Rattle.day_floor.specs.Sums.{with_charge, spent_by}
use Rattle.day_floor.specs.Books.{Accounts}
use Rattle.day_floor.specs.declared.due_slot.Due.{Due}
use Rattle.day_floor.specs.declared.due_slot.Due.TheVariants.{Nothing, Report, Balance, Spent}

-- the toll that a vehicle was told last, by its reports, the newest first
abbrev pub told_last : (Sight → StretchTold) → List Sight → Option ℕ
told_last finding [] = None
told_last finding (s ∷ older) = if is_told (previous older) s.1 then Some (finding s).toll else told_last finding older

-- a book is that of some tuples: each vehicle's toll told last, and the sums and the number of the charges
pub record IsBook (b : Accounts) (finding : Sight → StretchTold) (before : List Tuple) : Type 0 where
  pub told : (vid : ℕ) → get b.told vid ≡ told_last finding (sights_of before vid)
  pub spent : b.spent ≡ spent_by (charges_by finding (moments before))
  pub made : b.made ≡ length (charges_by finding (moments before))

-- What a slot does:

-- the charge of the stay that a vehicle leaves, if it leaves one: the toll that it was told last
abbrev pub charges_for : Charge → ℕ → Accounts → List Owed
charges_for No vid b = []
charges_for (Last xway) vid b = record { vid = vid; xway = xway; toll = unwrap_or (get b.told vid) 0 } ∷ []

-- a book with some charges more
abbrev pub charged_with : List Owed → Accounts → Accounts
charged_with [] b = b
charged_with (c ∷ cs) b = charged_with cs (record { told = b.told; spent = with_charge b.spent c; made = b.made + 1 })

-- a book after a vehicle is told a toll, if it is told one
abbrev pub told_with : Bool → ℕ → ℕ → Accounts → Accounts
told_with false vid toll b = b
told_with true vid toll b = record { told = insert b.told vid toll; spent = b.spent; made = b.made }

-- what is charged where a slot is settled
abbrev pub charges_in : Due → Accounts → List Owed
charges_in Nothing b = []
charges_in (Report time vid charge told) b = charges_for charge vid b
charges_in (Balance time vid qid) b = []
charges_in (Spent time vid qid xway day) b = []

-- the book after it: what is charged is of the toll that was told before
abbrev pub book_after : Due → ℕ → Accounts → Accounts
book_after Nothing toll b = b
book_after (Report time vid charge told) toll b = told_with told vid toll (charged_with (charges_for charge vid b) b)
book_after (Balance time vid qid) toll b = b
book_after (Spent time vid qid xway day) toll b = b

-- the vehicle of a stay that is charged was told a toll
abbrev pub WasTold : Charge → ℕ → Accounts → Type 0
WasTold No vid b = Unit {0}
WasTold (Last xway) vid b = IsSome (get b.told vid)

-- a slot may be settled after a book
abbrev pub CanSettle : Due → Accounts → Type 0
CanSettle Nothing b = Unit {0}
CanSettle (Report time vid charge told) b = WasTold charge vid b
CanSettle (Balance time vid qid) b = Unit {0}
CanSettle (Spent time vid qid xway day) b = Unit {0}
