-- What a caller knows of its jobs: which are out under which ticket, and which of them the crew tells.
use Rattle.std.specs.Prelude.{◌≡◌, ◌≢◌, ◌⊎◌, ℕ, Bool, true, List, [], ◌∷◌, ◌++◌, length, map, Option, Some, None}
use Rattle.std.specs.Prelude.{Contains}
use Rattle.std.specs.List.{AllByRecursion}
use Rattle.ways_expressway.specs.declared.job.Job.{Job}
use Rattle.ways_crews.specs.declared.job_list.Started.{Started}
use Rattle.ways_crews.specs.Lists.{listing_of}
use Rattle.ways_crews.specs.Told.{CrewTold}

-- no two tickets have one number
abbrev pub HaveOwnNumbers : {T : Type 0} → (T → ℕ) → List (T × Job) → Type 0
HaveOwnNumbers number [] = Unit {0}
HaveOwnNumbers number (t ∷ ts) = AllByRecursion (λ u. number u.0 ≢ number t.0) ts × HaveOwnNumbers number ts

-- a ticket is out: its number is, the crew gave it, and holds its job under its number
pub record IsTicketOut {S T : Type 0} (out : S → List ℕ) (number : T → ℕ) (holds : S → ℕ → Job → Type 0)
    (gave : S → T → Type 0) (crew : S) (task : T × Job) : Type 0 where
  pub there : Contains (out crew) (number task.0)
  pub held : holds crew (number task.0) task.1
  pub given : gave crew task.0

-- what a caller knows of a crew on which it started jobs that are still out, by their tickets in the order of the
-- starts, each with its job: as many are out, each with a number of its own
pub record HasOut {S T : Type 0} (out : S → List ℕ) (number : T → ℕ) (holds : S → ℕ → Job → Type 0)
    (gave : S → T → Type 0) (crew : S) (tasks : List (T × Job)) : Type 0 where
  pub all : length (out crew) ≡ length tasks
  pub apart : HaveOwnNumbers number tasks
  pub each : AllByRecursion (IsTicketOut out number holds gave crew) tasks

-- what a caller knows of the jobs that a crew tells, behind those that it told before: of the jobs started since, in
-- order, it lists the first; all where it still lists; and all too where no answer was refused and none that is out is
-- not listed
pub record IsListing (before : List Started) (jobs : List Job) (out : List ℕ) (refused : Bool)
    (told : CrewTold) : Type 0 where
  pub listed : List Started
  pub left : List Started
  pub is : told.listed ≡ before ++ listed
  pub split : map listing_of jobs ≡ listed ++ left
  pub whole : told.lists ≡ true → left ≡ []
  pub lost : (left ≡ []) ⊎ ((refused ≡ true) ⊎ ((n : ℕ) × Contains out n × (told.unlisted n ≡ true)))

-- the same of what a crew tells, where it tells its jobs
abbrev pub IsListingWhereTold : Option CrewTold → List Job → List ℕ → Bool → Option CrewTold → Type 0
IsListingWhereTold None jobs out refused None = Unit {0}
IsListingWhereTold None jobs out refused (Some now) = ⊥
IsListingWhereTold (Some before) jobs out refused None = ⊥
IsListingWhereTold (Some before) jobs out refused (Some now) = IsListing before.listed jobs out refused now

-- all jobs are listed, in the order of their starts, behind those listed before
abbrev pub ListsAll : List Job → CrewTold → CrewTold → Type 0
ListsAll jobs before now = now.listed ≡ before.listed ++ map listing_of jobs

-- the first of them are
abbrev pub ListsFirst : List Job → CrewTold → CrewTold → Type 0
ListsFirst jobs before now = (listed : List Started) × (left : List Started) × (now.listed ≡ before.listed ++ listed)
    × (map listing_of jobs ≡ listed ++ left)
