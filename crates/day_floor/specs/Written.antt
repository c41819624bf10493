-- What is written and charged as positions are settled.
use Rattle.std.specs.Prelude.{ℕ, List, take, drop}
use Rattle.road_time.specs.declared.road.Tuple.{Tuple}
use Rattle.road_time.specs.declared.road.Notice.{Notice}
use Rattle.road_time.specs.Sights.{Sight, moments}
use Rattle.road_time.specs.Tolls.{StretchTold}
use Rattle.road_time.specs.Day.{ChargedToll, given, notices_by, charges_by, charges_between, merged}
use Rattle.road_time.specs.Text.{out}
use Rattle.day_floor.specs.Shares.{State}

-- the notices that the moments of a day cause from one position on and below another
abbrev pub notices_between : (Sight → StretchTold) → ℕ → (ℕ → ℕ → ℕ → ℕ) → List Tuple → ℕ → ℕ → List Notice
notices_between finding number kept day a b = notices_by finding number kept (drop a (take b (moments day)))

-- what is written when the positions below n are settled, on a day with this number and these kept amounts
abbrev pub written_to : ℕ → (ℕ → ℕ → ℕ → ℕ) → State → ℕ → List ℕ
written_to number kept s n = out (notices_between (given s.found) number kept s.fed s.settled n)

-- the text of the settled positions
abbrev pub settled_text : ℕ → (ℕ → ℕ → ℕ → ℕ) → State → List ℕ
settled_text number kept s = out (merged (take s.settled s.fed) s.found number kept)

-- what is charged when the positions below n are settled
abbrev pub charged_to : State → ℕ → List ChargedToll
charged_to s n = charges_between (given s.found) s.fed s.settled n

-- the charges of the settled positions
abbrev pub settled_charges : State → List ChargedToll
settled_charges s = charges_by (given s.found) (moments (take s.settled s.fed))
