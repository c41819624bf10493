-- Which tuples ask what was paid on earlier days, and which amounts are what they ask for.
use Rattle.std.specs.Prelude.{ℕ, ◌≡◌, ◌+◌, ◌-◌, Bool, true, false, List, [], ◌∷◌}
use Rattle.std.specs.List.{list_any, AllByRecursion}
use Rattle.road_time.specs.declared.day.SpentRow.{SpentRow}
use Rattle.road_time.specs.declared.road.Tuple.{Tuple}
use Rattle.road_time.specs.declared.road.Tuple.TheVariants.{Report, Balance, Spent, Travel}
use Rattle.road_time.specs.History.{is_row, paid}

-- a tuple that asks what was paid on an earlier day
abbrev pub asks_history : Tuple → Bool
asks_history (Report r) = false
asks_history (Balance time vid qid) = false
asks_history (Spent time vid xway qid day) = true
asks_history (Travel time) = false

-- how many tuples ask
abbrev pub asking : Bool → ℕ
asking false = 0
asking true = 1

abbrev pub count_asks : List Tuple → ℕ
count_asks [] = 0
count_asks (x ∷ xs) = asking (asks_history x) + count_asks xs

-- there is a row of what a tuple of a day asks for
abbrev pub HasAsked : ℕ → List SpentRow → Tuple → Type 0
HasAsked number rows (Report r) = Unit {0}
HasAsked number rows (Balance time vid qid) = Unit {0}
HasAsked number rows (Spent time vid xway qid day) = list_any (is_row (number - day) vid xway) rows ≡ true
HasAsked number rows (Travel time) = Unit {0}

-- there is a row of what each tuple of a day asks for
abbrev pub HasAllAsked : ℕ → List SpentRow → List Tuple → Type 0
HasAllAsked number rows tuples = AllByRecursion (HasAsked number rows) tuples

-- each row has the amount that others have of its key
abbrev pub AreRight : List SpentRow → List SpentRow → Type 0
AreRight kept rows = AllByRecursion (λ r. r.tolls ≡ paid kept r.day r.vid r.xway) rows

-- whatever a row of some is, a row of others is
abbrev pub HaveAllOf : List SpentRow → List SpentRow → Type 0
HaveAllOf rows others = (p : SpentRow → Bool) → list_any p rows ≡ true → list_any p others ≡ true
