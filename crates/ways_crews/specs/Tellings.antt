-- What a crew tells of its jobs, by its list and its places.
use Rattle.std.specs.Prelude.{Bool, false, List, Option, Some, None, slice_get}
use Rattle.ways_crews.specs.declared.job_list.Started.{Started}
use Rattle.ways_crews.specs.declared.job_list.JobList.{JobList}
use Rattle.ways_crews.specs.Lists.{jobs_of}
use Rattle.ways_crews.specs.Told.{CrewTold}

-- whether a place has an entry whose job is not listed, by a test of entries
abbrev pub is_unlisted_at : {X : Type 0} → (X → Bool) → Option (Option X) → Bool
is_unlisted_at test None = false
is_unlisted_at test (Some None) = false
is_unlisted_at test (Some (Some entry)) = test entry

-- what a crew tells by its jobs and its places, with that test of what lies in them
abbrev pub crew_told : {X : Type 0} → (X → Bool) → Option (List Started) → Bool → List (Option X) → Option CrewTold
crew_told test None lists places = None
crew_told test (Some jobs) lists places =
    Some (record { listed = jobs; lists = lists; unlisted = λ n. is_unlisted_at test (slice_get places n) })

-- what a crew tells by its list and its places
abbrev pub told_by_list : {X : Type 0} → (X → Bool) → JobList → List (Option X) → Option CrewTold
told_by_list test list places = crew_told test (jobs_of list) list.lists places
