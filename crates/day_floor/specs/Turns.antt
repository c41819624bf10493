-- A floor's turns, one after another: which may be made, and what they write, charge, start and take.
use Rattle.std.specs.Prelude.{◌≡◌, ℕ, ◌<◌, true, List, [], ◌∷◌, ◌++◌}
use Rattle.road_time.specs.declared.road.Tuple.{Tuple}
use Rattle.road_time.specs.declared.day.Limits.{Limits}
use Rattle.road_time.specs.Rates.{Tariffs}
use Rattle.road_time.specs.Tolls.{StretchTold}
use Rattle.road_time.specs.Day.{ChargedToll}
use Rattle.ways_expressway.specs.Findings.{findings}
use Rattle.day_floor.specs.Shares.{JobStart, State, can_give, mark}
use Rattle.day_floor.specs.Steps.{after_feed, after_give, after_back, after_settle}
use Rattle.day_floor.specs.Sound.{CanFeed, CanBack}
use Rattle.day_floor.specs.Starts.{next_start}
use Rattle.day_floor.specs.Written.{written_to, charged_to}

-- what a floor does: it takes a tuple, gives a worker its next job, takes a worker's findings back, or settles up to
-- the mark
pub data FloorTurn : Type 0 where
  Feed : (x : Tuple) → FloorTurn
  Give : (worker : ℕ) → FloorTurn
  Back : (worker number : ℕ) (findings : List (ℕ × StretchTold)) → FloorTurn
  Settle : FloorTurn

-- a turn may be made
abbrev pub May : ℕ → Limits → State → FloorTurn → Type 0
May width limits s (Feed x) = CanFeed limits s x
May width limits s (Give worker) = (worker < width) × (can_give (s.share worker) ≡ true)
May width limits s (Back worker number findings) = CanBack width s worker number findings
May width limits s Settle = Unit {0}

-- the state after a turn
abbrev pub after : ℕ → State → FloorTurn → State
after width s (Feed x) = after_feed width s x
after width s (Give worker) = after_give s worker
after width s (Back worker number findings) = after_back s worker findings
after width s Settle = after_settle s (mark width s)

-- what a turn writes, on a day with this number and these kept amounts
abbrev pub written : ℕ → ℕ → (ℕ → ℕ → ℕ → ℕ) → State → FloorTurn → List ℕ
written width number kept s (Feed x) = []
written width number kept s (Give worker) = []
written width number kept s (Back worker number_of findings) = []
written width number kept s Settle = written_to number kept s (mark width s)

-- what a turn charges
abbrev pub charged : ℕ → State → FloorTurn → List ChargedToll
charged width s (Feed x) = []
charged width s (Give worker) = []
charged width s (Back worker number findings) = []
charged width s Settle = charged_to s (mark width s)

-- the job that a turn starts
abbrev pub started : State → FloorTurn → List JobStart
started s (Feed x) = []
started s (Give worker) = next_start s worker ∷ []
started s (Back worker number findings) = []
started s Settle = []

-- the tuple that a turn feeds
abbrev pub fed : FloorTurn → List Tuple
fed (Feed x) = x ∷ []
fed (Give worker) = []
fed (Back worker number findings) = []
fed Settle = []

-- the findings that a turn takes back
abbrev pub answered : FloorTurn → List (ℕ × StretchTold)
answered (Feed x) = []
answered (Give worker) = []
answered (Back worker number findings) = findings
answered Settle = []

-- findings that come back are those of the events that were out
abbrev pub IsRightTurn : Tariffs → State → FloorTurn → Type 0
IsRightTurn tariffs s (Feed x) = Unit {0}
IsRightTurn tariffs s (Give worker) = Unit {0}
IsRightTurn tariffs s (Back worker number found) = found ≡ findings (s.share worker).back (s.share worker).out tariffs
IsRightTurn tariffs s Settle = Unit {0}

-- each turn may be made after those before it
abbrev pub AreLawful : ℕ → Limits → State → List FloorTurn → Type 0
AreLawful width limits s [] = Unit {0}
AreLawful width limits s (t ∷ ts) = May width limits s t × AreLawful width limits (after width s t) ts

-- and the findings that come back at each turn are those of the events that were out
abbrev pub AreRight : ℕ → Tariffs → State → List FloorTurn → Type 0
AreRight width tariffs s [] = Unit {0}
AreRight width tariffs s (t ∷ ts) = IsRightTurn tariffs s t × AreRight width tariffs (after width s t) ts

-- the state after several turns, one after another
abbrev pub after_all : ℕ → State → List FloorTurn → State
after_all width s [] = s
after_all width s (t ∷ ts) = after_all width (after width s t) ts

-- what several turns write
abbrev pub written_all : ℕ → ℕ → (ℕ → ℕ → ℕ → ℕ) → State → List FloorTurn → List ℕ
written_all width number kept s [] = []
written_all width number kept s (t ∷ ts) =
    written width number kept s t ++ written_all width number kept (after width s t) ts

-- what several turns charge
abbrev pub charged_all : ℕ → State → List FloorTurn → List ChargedToll
charged_all width s [] = []
charged_all width s (t ∷ ts) = charged width s t ++ charged_all width (after width s t) ts

-- the jobs that several turns start
abbrev pub started_all : ℕ → State → List FloorTurn → List JobStart
started_all width s [] = []
started_all width s (t ∷ ts) = started s t ++ started_all width (after width s t) ts

-- the tuples that several turns feed
abbrev pub fed_all : List FloorTurn → List Tuple
fed_all [] = []
fed_all (t ∷ ts) = fed t ++ fed_all ts

-- the findings that several turns take back
abbrev pub answered_all : List FloorTurn → List (ℕ × StretchTold)
answered_all [] = []
answered_all (t ∷ ts) = answered t ++ answered_all ts
