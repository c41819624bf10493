-- The jobs that a plan starts.
use Rattle.std.specs.Prelude.{ℕ, ◌≡◌, ◌≤◌, ◌<◌, ◌++◌, Bool, true, false, List, [], ◌∷◌, length, map, Option, Some, None}
use Rattle.rand_pcg.specs.Lcg.{Lcg}
use Rattle.day_plan.specs.Draws.{seeded}
use Rattle.road_time.specs.declared.road.Tuple.{Tuple}
use Rattle.ways_expressway.specs.declared.job.Job.{Job}
use Rattle.ways_expressway.specs.declared.finding.Finding.{Finding}
use Rattle.ways_crews.specs.Told.{CrewTold, WhereTold}
use Rattle.ways_crews.specs.Callers.{ListsAll}
use Rattle.road_time.specs.Tolls.{StretchTold}
use Rattle.day_floor.specs.Shares.{State, start}
use Rattle.day_import.specs.Drawn.{TurnMade, AreTurns}
use Rattle.day_import.specs.RoundRuns.{AllComeInOrder, HasAnswered, start_of, after_feeds, given_all, after_backs}
use Rattle.day_import.specs.RoundRuns.{settled_all}

-- a round that was made: the state before it, what it fed, and the jobs that came back
pub record RoundMade : Type 0 where
  pub before : State
  pub xs : List Tuple
  pub backs : List (ℕ × List (ℕ × StretchTold))

-- the state after it: each worker was given its next job, in their order, and all is settled
abbrev pub after_round : ℕ → RoundMade → State
after_round width r =
    settled_all width (after_backs (given_all (after_feeds width r.before r.xs) width) r.backs)

-- whether tuples are left
abbrev pub are_left : List Tuple → Bool
are_left [] = false
are_left (x ∷ xs) = true

-- the rounds of a day since its start, the last one first: each feeds as many tuples as there is room for, or all that
-- are left, and finishes its jobs in the order of their starts
abbrev pub AreRounds : ℕ → ℕ → List RoundMade → State → Bool → Type 0
AreRounds width backlog [] s more = s ≡ start
AreRounds width backlog (r ∷ rounds) s more = (length r.xs ≤ backlog) × (length r.xs < backlog → more ≡ false)
    × (s.fed ≡ r.before.fed ++ r.xs) × (s ≡ after_round width r)
    × AllComeInOrder (given_all (after_feeds width r.before r.xs) width) r.backs
    × AreRounds width backlog rounds r.before true

-- a state is that after the rounds of a day, or after the turns that a plan's number draws, where it has one
abbrev pub IsPlanned : Option ℕ → ℕ → ℕ → State → Type 0
IsPlanned None width backlog now = (rounds : List RoundMade) × AreRounds width backlog rounds now false
IsPlanned (Some number) width backlog now = (turns : List TurnMade) × (last : Lcg)
    × AreTurns width backlog (seeded number) turns now last false

-- the jobs that were started on a day are those of its plan, in the order of their starts, and are listed; and what was
-- answered of them are their findings, in the order in which the plan finishes them
pub record HasPlannedJobs (turns : Option ℕ) (width backlog : ℕ) (day : List Tuple) (told now : Option CrewTold)
    (answers answered : Option (List Finding)) : Type 0 where
  pub last : State
  pub planned : IsPlanned turns width backlog last
  pub fed : last.fed ≡ day
  pub since : List Job
  pub are : map start_of since ≡ last.starts
  pub listed : WhereTold (ListsAll since) told now
  pub found : HasAnswered answers last.found answered
