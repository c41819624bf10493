-- The list of the jobs that were started, as a crew keeps it.
use Rattle.std.specs.Prelude.{◌≡◌, Bool, true, false, List, [], ◌∷◌, ◌++◌, Option, Some, None, if◌then◌else◌}
use Rattle.std.specs.Option.{option_map}
use Rattle.ways_expressway.specs.declared.job.Job.{Job}
use Rattle.ways_crews.specs.declared.job_list.Started.{Started}
use Rattle.ways_crews.specs.declared.job_list.JobList.{JobList}

-- what is listed of a job that is started
abbrev pub listing_of : Job → Started
listing_of job = record { worker = job.worker; number = job.number; events = job.events }

-- the jobs that are listed, where they are told
abbrev pub jobs_of : JobList → Option (List Started)
jobs_of list = option_map (λ jobs. jobs.items) list.jobs

-- the jobs of a list that is told, or none
abbrev pub all_of : Option (List Started) → List Started
all_of None = []
all_of (Some jobs) = jobs

-- the jobs that are listed, none where they are not told
abbrev pub listed_of : JobList → List Started
listed_of list = all_of (jobs_of list)

-- no job was started
pub record IsNewList (tell : Bool) (list : JobList) : Type 0 where
  pub lists : list.lists ≡ true
  pub jobs : jobs_of list ≡ (if tell then Some [] else None)

-- a job is listed, where jobs are told and were listed before, or it is not, and from then on none is; where they are
-- not told nothing changes
abbrev pub Lists : Job → Bool → Option (List Started) → Bool → Option (List Started) → Bool → Type 0
Lists job listed None before jobs lists = (listed ≡ true) × (jobs ≡ None)
Lists job listed (Some was) before jobs lists =
    (lists ≡ listed) × (listed ≡ true → (before ≡ true) × (jobs ≡ Some (was ++ listing_of job ∷ [])))
    × (listed ≡ false → jobs ≡ Some was)

-- the same of a list that a crew keeps, before and after
abbrev pub IsListed : Job → Bool → JobList → JobList → Type 0
IsListed job listed was now = Lists job listed (jobs_of was) was.lists (jobs_of now) now.lists
