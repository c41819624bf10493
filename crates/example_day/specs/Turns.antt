-- What a caller does that runs each job at once.
use Rattle.std.specs.Prelude.{ℕ, zero, suc, ◌≡◌, ◌≤◌, take, List, [], ◌∷◌, length, if◌then◌else◌}
use Rattle.road_time.specs.declared.road.Tuple.{Tuple}
use Rattle.road_time.specs.Rates.{Tariffs}
use Rattle.road_time.specs.Day.{notices, merged}
use Rattle.ways_expressway.specs.Findings.{findings}
use Rattle.day_floor.specs.Shares.{State, can_give, mark}
use Rattle.day_floor.specs.Steps.{after_feed, after_give, after_back}
use Rattle.day_floor.specs.Sound.{IsTrue}

-- some tuples are fed, one after another
abbrev pub after_fed : ℕ → State → List Tuple → State
after_fed width s [] = s
after_fed width s (x ∷ xs) = after_fed width (after_feed width s x) xs

-- a worker's job is given and taken back with what its events find, if it may be given one
abbrev pub after_run : Tariffs → State → ℕ → State
after_run tariffs s worker =
    if can_give (s.share worker) then after_back (after_give s worker) worker
    (findings (s.share worker).back (s.share worker).waiting tariffs) else s

-- the jobs of the first so many workers are given and taken back so
abbrev pub after_runs : Tariffs → State → ℕ → State
after_runs tariffs s zero = s
after_runs tariffs s (suc worker) = after_run tariffs (after_runs tariffs s worker) worker

-- no job is out
abbrev pub AllHome : State → Type 0
AllHome s = (worker : ℕ) → (s.share worker).out ≡ []

-- all tuples that were fed are below the mark, and they make the notices of the rules, as their first ones do
pub record AreAnswered (tariffs : Tariffs) (width : ℕ) (fed : List Tuple) (s : State) : Type 0 where
  pub same : s.fed ≡ fed
  pub mark_is : mark width s ≡ length fed
  pub home : AllHome s
  pub true_found : IsTrue tariffs width s
  pub exact : (number : ℕ) (kept : ℕ → ℕ → ℕ → ℕ) → merged fed s.found number kept ≡ notices fed tariffs number kept
  pub fronts : (n : ℕ) → n ≤ length fed → (number : ℕ) (kept : ℕ → ℕ → ℕ → ℕ) →
      merged (take n fed) s.found number kept ≡ notices (take n fed) tariffs number kept
